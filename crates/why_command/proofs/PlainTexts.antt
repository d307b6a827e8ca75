-- Bytes are a refutation of all schedules, or break its form at one place.
use Rattle.std.proofs.Common.{◌≡◌, ◌≢◌, ◌∙◌, ◌<◌, ◌++◌, refl, ap, ap₂, sym, subst, arith, ℕ, ◌+◌, Bool, true, false, List, Option, [], ◌∷◌, length, take, drop, take_all, Some, None}
use Rattle.std.specs.Prelude.{is_some, if◌then◌else◌, nat_eq}
use Rattle.std.proofs.lemmas.Bool.{ne_eqb, true≢false}
use Rattle.std.proofs.lemmas.List.{take-append-drop}
use Rattle.std.proofs.lemmas.Option.{same_Some}
use Rattle.refute_check.specs.Broken.{BreaksAt}
use Rattle.refute_check.specs.Laws.{IsWhole, whole_lines}
use Rattle.refute_check.specs.Reading.{Reading, Reads, after_taken, beginning, first_breach, lines_of}
use Rattle.refute_check.specs.helpers.Pieces.{pushed}
use Rattle.refute_check.specs.Texts.{refutation_text}
use Rattle.refute_check.specs.declared.head.Head.{Head}
use Rattle.refute_check.specs.declared.line.Line.{Line}
use Rattle.refute_check.specs.declared.text.Taken.{Taken}
use Rattle.refute_check.specs.declared.text.Taken.TheVariants.{More, Header, Line as Body, Form}
use Rattle.refute_check.proofs.Cuts.{Step}
use Rattle.refute_check.proofs.Wholes.{reads-agree, text-is-read}
use Rattle.log_tasks.specs.Texts.{IsRefutation, head_of}
use Rattle.refutation_verdicts.proofs.Judged.{form_or_break, stays}
use Rattle.why_command.specs.Causes.{IsBrokenAt, Plain, counts_switches, first_broken}

-- the lines of some bytes are those of a first part and those of the rest
pub record Cut (s u : Reading) (front back : List ℕ) (ts : List Taken) : Type 0 where
  xs : List Taken
  t : Reading
  ys : List Taken
  first : Reads s front xs t
  later : Reads t back ys u
  all : ts ≡ xs ++ ys

abbrev Cuts : List ℕ → List ℕ → Type 0
Cuts front back = (s u : Reading) (ts : List Taken) → Reads s (front ++ back) ts u → Cut s u front back ts

cut_step : (f ends : Bool) (s u : Reading) (b : ℕ) (front back : List ℕ) (ts : List Taken) → is_some s.fault ≡ f → nat_eq b 10 ≡ ends → Cuts front back
    → Step f ends s b (front ++ back) ts u → Cut s u (b ∷ front) back ts
cut_step true ends s u b front back ts broken is cuts r = record {
  xs = [];
  t = s;
  ys = [];
  first = subst (λ f. Step f (nat_eq b 10) s b front [] s) (sym broken) (refl, refl);
  later = subst (λ v. Reads s back [] v) (sym r.1) (stays back s broken);
  all = r.0;
}
cut_step false true s u b front back ts broken is cuts r =
    let c = cuts (after_taken s r.0) u r.1 r.4 in
    record {
      xs = r.0 ∷ c.xs;
      t = c.t;
      ys = c.ys;
      first = subst (λ f. Step f (nat_eq b 10) s b front (r.0 ∷ c.xs) c.t) (sym broken)
          (subst (λ d. Step false d s b front (r.0 ∷ c.xs) c.t) (sym is) (r.0, c.xs, refl, r.3, c.first));
      later = c.later;
      all = r.2 ∙ ap (λ zs. r.0 ∷ zs) c.all;
    }
cut_step false false s u b front back ts broken is cuts r =
    let c = cuts (pushed s (b ∷ [])) u ts r in
    record {
      xs = c.xs;
      t = c.t;
      ys = c.ys;
      first = subst (λ f. Step f (nat_eq b 10) s b front c.xs c.t) (sym broken)
          (subst (λ d. Step false d s b front c.xs c.t) (sym is) c.first);
      later = c.later;
      all = c.all;
    }

cut : (front back : List ℕ) → Cuts front back
cut [] back s u ts r = record { xs = []; t = s; ys = ts; first = (refl, refl); later = r; all = refl }
cut (b ∷ front) back s u ts r = cut_step (is_some s.fault) (nat_eq b 10) s u b front back ts refl refl (λ s u ts r. cut front back s u ts r) r

-- the first breach of some lines, by the first line
first_of : (x : Taken) (ys : List Taken) (line : ℕ) → x ≢ More → first_broken (lines_of x ++ ys) (Some line) ≡ Some (if counts_switches x then 1 else line)
first_of More ys line some = absurd (some refl)
first_of (Header head) ys line some = by (is_some head.switches)
  where
    by : (b : Bool) → (if b then Some 1 else Some line) ≡ Some (if b then 1 else line)
    by true = refl
    by false = refl
first_of (Body l) ys line some = refl
first_of (Form k) ys line some = refl

-- the lines of some bytes, if this one was read first
line_in : (bytes : List ℕ) (n : ℕ) (x : Taken) (t u : Reading) (ts : List Taken) (line : ℕ) → 0 < n → x ≢ More
    → Reads beginning (take n bytes) (if nat_eq n 0 then [] else lines_of x) t → Reads beginning bytes ts u
    → first_broken ts (Some line) ≡ Some (if counts_switches x then 1 else line)
line_in bytes n x t u ts line moves some reads all =
    let c = cut (take n bytes) (drop n bytes) beginning u ts (subst (λ bs. Reads beginning bs ts u) (sym (take-append-drop n bytes)) all) in
    let one : nat_eq n 0 ≡ false = ne_eqb n 0 (λ e. omega (arith, e, moves)) in
    let same = (reads-agree (take n bytes) beginning c.t t c.xs (if nat_eq n 0 then [] else lines_of x) c.first reads).0
    ∙ ap (λ b. if b then [] else lines_of x) one in
    ap (λ xs. first_broken xs (Some line)) (c.all ∙ ap (λ xs. xs ++ c.ys) same) ∙ first_of x c.ys line some

either_nil : (b : Bool) → ◌≡◌ {A = List Taken} (if b then [] else []) []
either_nil true = refl
either_nil false = refl

first_in : (bytes : List ℕ) (n : ℕ) (x : Taken) (t u : Reading) (ts : List Taken) (line : ℕ) → (x ≢ More → 0 < n) → (x ≡ More → n ≡ length bytes)
    → Reads beginning (take n bytes) (if nat_eq n 0 then [] else lines_of x) t → Reads beginning bytes ts u
    → first_broken ts (Some line) ≡ Some (if counts_switches x then 1 else line)
first_in bytes n More t u ts line moves more reads all =
    let whole : take n bytes ≡ bytes = take_all n bytes (omega (arith, more refl)) in
    let none : Reads beginning bytes [] t =
    subst (λ bs. Reads beginning bs [] t) whole (subst (λ xs. Reads beginning (take n bytes) xs t) (either_nil (nat_eq n 0)) reads) in
    ap (λ xs. first_broken xs (Some line)) (reads-agree bytes beginning u t ts [] all none).0
first_in bytes n (Header h) t u ts line moves more reads all = line_in bytes n (Header h) t u ts line (moves (λ e. cc)) (λ e. cc) reads all
first_in bytes n (Body l) t u ts line moves more reads all = line_in bytes n (Body l) t u ts line (moves (λ e. cc)) (λ e. cc) reads all
first_in bytes n (Form k) t u ts line moves more reads all = line_in bytes n (Form k) t u ts line (moves (λ e. cc)) (λ e. cc) reads all

-- the first line that breaks the form of a refutation of all schedules
pub is_broken_at : (bytes : List ℕ) (n : ℕ) (x : Taken) (t : Reading) (line first : ℕ) → BreaksAt bytes line → (x ≢ More → 0 < n)
    → (x ≡ More → n ≡ length bytes) → Reads beginning (take n bytes) (if nat_eq n 0 then [] else lines_of x) t
    → (if counts_switches x then 1 else line) ≡ first → IsBrokenAt bytes first
is_broken_at bytes n x t line first breaks moves more reads is =
    (breaks.0, Some line, breaks.1, first_in bytes n x t breaks.1.0 breaks.0 line moves more reads breaks.1.1 ∙ ap Some is)

-- a header that names a number of switches breaks that form
pub head_breaks : (bytes : List ℕ) (h : Head) (ls : List Line) → IsWhole h ls → refutation_text h ls ≡ bytes → is_some h.switches ≡ true → IsBrokenAt bytes 1
head_breaks bytes h ls whole text counts =
    let end : Reading = record { unfinished = []; line = length ls + 2; fault = None } in (
      whole_lines h ls,
      first_breach end,
      (end, subst (λ bs. Reads beginning bs (whole_lines h ls) end) text (text-is-read h ls whole), refl),
      ap (λ b. if b then Some 1 else first_breach end) counts,
    )

-- a header that names none fits that form
pub is_refutation : (bytes : List ℕ) (h : Head) (ls : List Line) → IsWhole h ls → refutation_text h ls ≡ bytes → is_some h.switches ≡ false
    → IsRefutation bytes (head_of h.model) ls
is_refutation bytes h ls whole text none =
    let same : h ≡ head_of h.model = own h.switches none in
    record { whole = subst (λ k. IsWhole k ls) same whole; text = sym text ∙ ap (λ k. refutation_text k ls) same }
  where
    own : (o : Option ℕ) → is_some o ≡ false → record h { switches = o } ≡ head_of h.model
    own None is = refl
    own (Some k) is = absurd (true≢false is)

-- the bytes are a refutation of all schedules, or break its form at one place
module _ (bytes : List ℕ) where
  pub plain_or_break : Plain bytes → (n : ℕ) → IsBrokenAt bytes n → ⊥
  plain_or_break r n g =
      let f = r.refutation in
      let end : Reading = record { unfinished = []; line = length f.lines + 2; fault = None } in
      let read = subst (λ b. Reads beginning b (whole_lines f.head f.lines) end) (sym f.text.text) (text-is-read f.head f.lines f.text.whole) in
      let same = reads-agree bytes beginning g.2.0 end g.0 (whole_lines f.head f.lines) g.2.1 read in
      let counts : is_some f.head.switches ≡ false = ap is_some r.plain in
      let unbroken : first_broken (whole_lines f.head f.lines) g.1 ≡ g.1 = ap (λ b. if b then Some 1 else g.1) counts in
      form_or_break bytes f n (g.0, (g.2.0, g.2.1, g.2.2 ∙ sym unbroken ∙ ap (λ ts. first_broken ts g.1) (sym same.0) ∙ g.3))

  pub one_plain_break : (m n : ℕ) → IsBrokenAt bytes m → IsBrokenAt bytes n → m ≡ n
  one_plain_break m n f g =
      let same = reads-agree bytes beginning f.2.0 g.2.0 f.0 g.0 f.2.1 g.2.1 in
      let broken = sym f.2.2 ∙ ap first_breach same.1 ∙ g.2.2 in
      same_Some m n (sym f.3 ∙ ap₂ first_broken same.0 broken ∙ g.3)
