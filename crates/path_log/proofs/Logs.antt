-- A text is the text of one log, or breaks the form at one offset.
use Rattle.std.proofs.Common.{◌≡◌, ◌<◌, ◌≤◌, ◌+◌, ℕ, suc, Bool, true, ◌&&◌, leb, ltb, eqb, List, [], ◌∷◌, ◌++◌, length, Option, Some, None, Ok, Err}
use Rattle.std.proofs.Common.{refl, sym, ap, ◌∙◌, subst, arith, append_assoc, inl, inr, ◌^◌, lit<}
use Rattle.std.specs.Prelude.{codes, bytes_eq, is_some, IfSome}
use Rattle.std.specs.List.{flat_map, list_all}
use Rattle.std.proofs.lemmas.Bool.{and_parts, and_from, cases_Bool, cases_lt, le-leb, leb-true, lt-ltb, ltb-true, eqb-true, eq-eqb, ne_eqb}
use Rattle.std.proofs.lemmas.List.{append-nil, nil_from_length}
use Rattle.std.proofs.lemmas.Slice.Eq.{bytes_eq-Decides}
use Rattle.byteorder.specs.Endian.{big_bytes}
use Rattle.tc_base.specs.Paths.{ThreadPath}
use Rattle.tc_base.specs.declared.failing.Failing.{Failing}
use Rattle.tc_base.specs.declared.failing.Failing.TheVariants.{Thread, Deadlock}
use Rattle.memory_models.specs.declared.model.Model.{Model}
use Rattle.memory_models.specs.declared.model.Model.TheVariants.{Sc, Tso, Pso}
use Rattle.run_log.proofs.Digests.{digest_is}
use Rattle.run_log.specs.Logs.{StoredLog, is_log, is_digest, is_there, rises_from}
use Rattle.path_log.specs.Texts.{AreBytes, HasText, IsLog, is_thread}
use Rattle.path_log.specs.Texts.{thread_text, model_code, head_text, ending_code, log_text}
use Rattle.path_log.specs.Fields.{Place, done, behind, ◌such◌, ◌>>=◌, field, byte, two, model_of, model, digest_in, head, ending_of, ending, threads}
use Rattle.path_log.specs.Fields.{body, ended, has_ending, is_within, whole}
use Rattle.path_log.specs.Faults.{BreaksAt}
use Rattle.path_log.specs.declared.fault.LogFault.{LogFault}
use Rattle.path_log.specs.declared.fault.LogFault.TheVariants.{Form, Memory}
use Rattle.path_log.specs.helpers.Reading.{Fails}
use Rattle.path_log.proofs.Loops.{Read, whole_read, read_is, guard_ok, such_passes, within}
use Rattle.path_log.proofs.Texts.{Takes, Takes-then, Takes-nothing, ReadsAs, behind_ok, field_takes, field_again, byte_takes, byte_again, two_takes, two_again}
use Rattle.path_log.proofs.Texts.{such_again, within_again, threads_rise, threads_take, threads_again}

-- The head.

abbrev sign : List ℕ
sign = codes "CLPL"

abbrev format_of : Option (List ℕ) → ℕ
format_of None = 1
format_of (Some digest) = 2

abbrev digest_text : Option (List ℕ) → List ℕ
digest_text None = []
digest_text (Some digest) = digest

head_parts : (digest : Option (List ℕ)) (m : Model) → head_text digest m ≡ sign ++ (big_bytes 2 (format_of digest) ++ (model_code m ∷ digest_text digest))
head_parts None m = refl
head_parts (Some digest) m = refl

code_again : (code : ℕ) → code ≤ 2 → model_code (model_of code) ≡ code
code_again code le = elim (cases_lt code 1) [
  | inl least ↦ let is : code ≡ 0 = omega arith in ap (λ (c : ℕ). model_code (model_of c)) is ∙ sym is
  | inr more ↦
      elim (cases_lt code 2) [
        | inl less ↦ let is : code ≡ 1 = omega arith in ap (λ (c : ℕ). model_code (model_of c)) is ∙ sym is
        | inr most ↦ let is : code ≡ 2 = omega arith in ap (λ (c : ℕ). model_code (model_of c)) is ∙ sym is
      ]
]

model_takes : (place : Place) (x : Model × Place) → AreBytes place.1 → model place ≡ Ok x → Takes place.1 (model_code x.0 ∷ []) x.1.1
model_takes place x h e =
    let a = behind_ok ((byte such is_within 0 2) place) (λ code. done (model_of code)) x e in
    let code = byte_takes place a.0 h (such_passes byte (is_within 0 2) place a.0 a.1).0 in
    let small = (within 0 2 byte place a.0 a.1).1 in
    let made : Takes place.1 (model_code (model_of a.0.0) ∷ []) a.0.1.1 = subst (λ (c : ℕ). Takes place.1 (c
    ∷ []) a.0.1.1) (sym (code_again a.0.0 small)) code.0 in
    subst (λ (y : Model × Place). Takes place.1 (model_code y.0 ∷ []) y.1.1) (read_is (model_of a.0.0, a.0.1) x a.2) made

model_again : (m : Model) (rest : List ℕ) (offset : ℕ) → model (offset, model_code m ∷ rest) ≡ Ok (m, (offset + 1, rest))
model_again m rest offset =
    ap (λ (r : Read ℕ). behind r (λ code. done (model_of code)))
    (such_again byte (is_within 0 2) (offset, model_code m ∷ rest) (model_code m) (offset + 1, rest) (byte_again (model_code m) rest offset) (small m))
    ∙ ap (λ (n : Model). whole_read (n, (offset + 1, rest))) (back m)
  where
    small : (m : Model) → is_within 0 2 (model_code m) ≡ true
    small Sc = refl
    small Tso = refl
    small Pso = refl

    back : (m : Model) → model_of (model_code m) ≡ m
    back Sc = refl
    back Tso = refl
    back Pso = refl

abbrev IsDigest : Option (List ℕ) → Type 0
IsDigest digest = IfSome digest (λ d. is_digest d ≡ true)

digest_takes : (format : ℕ) (place : Place) (x : Option (List ℕ) × Place) → 1 ≤ format → format ≤ 2 → AreBytes place.1 → digest_in format place ≡ Ok x
    → Takes place.1 (digest_text x.0) x.1.1 × (format ≡ format_of x.0) × IsDigest x.0
digest_takes format place x low high h e = elim (cases_lt format 2) [
  | inl less ↦
      let is : format ≡ 1 = omega arith in
      let none : whole_read (None, place) ≡ whole_read x = sym (ap (λ (f : ℕ). digest_in f place) is) ∙ e in
      subst (λ (y : Option (List ℕ) × Place). Takes place.1 (digest_text y.0) y.1.1 × (format ≡ format_of y.0) × IsDigest y.0) (read_is (None, place) x none)
      (Takes-nothing place.1 h, is, tt)
  | inr most ↦
      let is : format ≡ 2 = omega arith in
      let some : behind (field 32 place) (λ digest. done (Some digest)) ≡ Ok x = sym (ap (λ (f : ℕ). digest_in f place) is) ∙ e in
      let a = behind_ok (field 32 place) (λ digest. done (Some digest)) x some in
      let t = field_takes 32 place a.0 h a.1 in
      subst (λ (y : Option (List ℕ) × Place). Takes place.1 (digest_text y.0) y.1.1 × (format ≡ format_of y.0) × IsDigest y.0)
      (read_is (Some a.0.0, a.0.1) x a.2)
      (t.0, is, digest_is a.0.0 t.1 t.2)
]

digest_again : (digest : Option (List ℕ)) (rest : List ℕ) (offset : ℕ) → IsDigest digest
    → ReadsAs (digest_in (format_of digest) (offset, digest_text digest ++ rest)) digest rest
digest_again None rest offset h = record { end = offset; read_is = refl }
digest_again (Some digest) rest offset h =
    let len = eqb-true (length digest) 32 (and_parts (eqb (length digest) 32) (list_all (λ byte. ltb byte 256) digest) h).0 in
    record {
      end = offset + 32;
      read_is = ap (λ (r : Read (List ℕ)). behind r (λ digest. done (Some digest))) (field_again digest rest 32 offset len);
    }

head_takes : (place : Place) (x : (Option (List ℕ) × Model) × Place) → AreBytes place.1 → head place ≡ Ok x
    → Takes place.1 (head_text x.0.0 x.0.1) x.1.1 × IsDigest x.0.0
unfolding head
head_takes place x h e =
    let a = behind_ok ((field 4 such bytes_eq sign) place)
    (λ _. (two such is_within 1 2) >>= λ format. model >>= λ m. digest_in format >>= λ digest. done (digest, m)) x e in
    let b = behind_ok ((two such is_within 1 2) a.0.1) (λ format. model >>= λ m. digest_in format >>= λ digest. done (digest, m)) x a.2 in
    let c = behind_ok (model b.0.1) (λ m. digest_in b.0.0 >>= λ digest. done (digest, m)) x b.2 in
    let d = behind_ok (digest_in b.0.0 c.0.1) (λ digest. done (digest, c.0.0)) x c.2 in
    let signed = such_passes (field 4) (bytes_eq sign) place a.0 a.1 in
    let t0 = field_takes 4 place a.0 h signed.0 in
    let sign_is : sign ≡ a.0.0 = (bytes_eq-Decides sign a.0.0).0 signed.1 in
    let first : Takes place.1 sign a.0.1.1 = subst (λ (f : List ℕ). Takes place.1 f a.0.1.1) (sym sign_is) t0.0 in
    let t1 = two_takes a.0.1 b.0 first.are (such_passes two (is_within 1 2) a.0.1 b.0 b.1).0 in
    let bounds = within 1 2 two a.0.1 b.0 b.1 in
    let t2 = model_takes b.0.1 c.0 t1.0.are c.1 in
    let t3 = digest_takes b.0.0 c.0.1 d.0 bounds.0 bounds.1 t2.are d.1 in
    let format : Takes a.0.1.1 (big_bytes 2 (format_of d.0.0)) b.0.1.1 = subst (λ (f : ℕ). Takes a.0.1.1 (big_bytes 2 f) b.0.1.1) t3.1 t1.0 in
    let last_two = Takes-then b.0.1.1 (model_code c.0.0 ∷ []) c.0.1.1 (digest_text d.0.0) d.0.1.1 t2 t3.0 in
    let last_three = Takes-then a.0.1.1 (big_bytes 2 (format_of d.0.0)) b.0.1.1 (model_code c.0.0 ∷ digest_text d.0.0) d.0.1.1 format last_two in
    let all = Takes-then place.1 sign a.0.1.1 (big_bytes 2 (format_of d.0.0) ++ (model_code c.0.0 ∷ digest_text d.0.0)) d.0.1.1 first last_three in
    let made : Takes place.1 (head_text d.0.0 c.0.0) d.0.1.1 = subst (λ (f : List ℕ). Takes place.1 f d.0.1.1) (sym (head_parts d.0.0 c.0.0)) all in
    subst (λ (y : (Option (List ℕ) × Model) × Place). Takes place.1 (head_text y.0.0 y.0.1) y.1.1 × IsDigest y.0.0)
    (read_is ((d.0.0, c.0.0), d.0.1) x d.2) (made, t3.2)

format_within : (digest : Option (List ℕ)) → is_within 1 2 (format_of digest) ≡ true
format_within None = refl
format_within (Some digest) = refl

format_small : (digest : Option (List ℕ)) → format_of digest < 2 ^ 16
format_small None = lit< tt
format_small (Some digest) = lit< tt

head_again : (digest : Option (List ℕ)) (m : Model) (rest : List ℕ) (offset : ℕ) → IsDigest digest
    → ReadsAs (head (offset, head_text digest m ++ rest)) (digest, m) rest
unfolding head
head_again digest m rest offset h =
    let format = big_bytes 2 (format_of digest) in
    let behind_model = digest_text digest ++ rest in
    let behind_sign = format ++ (model_code m ∷ behind_model) in
    let split : head_text digest m ++ rest ≡ sign ++ behind_sign =
    ap (λ (x : List ℕ). x ++ rest) (head_parts digest m)
    ∙ (append_assoc sign (format ++ (model_code m ∷ digest_text digest)) rest
    ∙ ap (λ (x : List ℕ). sign ++ x) (append_assoc format (model_code m ∷ digest_text digest) rest)) in
    let first = such_again (field 4) (bytes_eq sign) (
      offset,
      sign
          ++ behind_sign,
    ) sign (offset + 4, behind_sign) (field_again sign behind_sign 4 offset refl) refl in
    let second = such_again two (is_within 1 2) (offset + 4, behind_sign) (format_of digest) (offset + 4 + 2, model_code m ∷ behind_model)
    (two_again (format_of digest) (model_code m ∷ behind_model) (offset + 4) (format_small digest)) (format_within digest) in
    let last = digest_again digest rest (offset + 4 + 2 + 1) h in
    record {
      end = last.end;
      read_is = ap (λ (x : List ℕ). head (offset, x)) split
          ∙ (ap (λ (r : Read (List ℕ)). behind r
          (λ _. (two such is_within 1 2) >>= λ format. model >>= λ m. digest_in format >>= λ digest. done (digest, m))) first
          ∙ (ap (λ (r : Read ℕ). behind r (λ format. model >>= λ m. digest_in format >>= λ digest. done (digest, m))) second
          ∙ (ap (λ (r : Read Model). behind r (λ m. digest_in (format_of digest) >>= λ digest. done (digest, m)))
          (model_again m behind_model (offset + 4 + 2))
          ∙ ap (λ (r : Read (Option (List ℕ))). behind r (λ digest. done (digest, m))) last.read_is)));
    }

-- How the run ended.

ending_again_of : (code : ℕ) → ending_code (ending_of code) ≡ code
ending_again_of code = elim (cases_Bool (eqb code 255)) [
  | inl is ↦ rw is (sym (eqb-true code 255 is))
  | inr other ↦ rw other refl
]

ending_is : (failing : Failing) (count : ℕ) → is_there failing count ≡ true → count ≤ 255 → ending_of (ending_code failing) ≡ failing
ending_is (Thread k) count there few = let lt = ltb-true k count there in rw (ne_eqb k 255 (λ e. omega arith)) refl
ending_is Deadlock count there few = refl

abbrev passes : Bool → ℕ → Failing → Bool
passes both count failing = has_ending both failing && is_there failing count

abbrev one_byte : Place → Read Failing
one_byte = byte >>= λ code. done (ending_of code)

pub there_of : (both : Bool) (count : ℕ) (place : Place) (x : Failing × Place) → ending both count place ≡ Ok x → is_there x.0 count ≡ true
there_of both count place x e =
    let a = such_passes one_byte (passes both count) place x e in (and_parts (has_ending both x.0) (is_there x.0 count) a.1).1

ending_takes : (both : Bool) (count : ℕ) (place : Place) (x : Failing × Place) → AreBytes place.1 → ending both count place ≡ Ok x
    → Takes place.1 (ending_code x.0 ∷ []) x.1.1 × (has_ending both x.0 ≡ true) × (is_there x.0 count ≡ true)
ending_takes both count place x h e =
    let a = such_passes one_byte (passes both count) place x e in
    let rules = and_parts (has_ending both x.0) (is_there x.0 count) a.1 in
    let b = behind_ok (byte place) (λ code. done (ending_of code)) x a.0 in
    let code = byte_takes place b.0 h b.1 in
    let made : Takes place.1 (ending_code (ending_of b.0.0) ∷ []) b.0.1.1 = subst (λ (c : ℕ). Takes place.1 (c
    ∷ []) b.0.1.1) (sym (ending_again_of b.0.0)) code.0 in
    (subst (λ (y : Failing × Place). Takes place.1 (ending_code y.0 ∷ []) y.1.1) (read_is (ending_of b.0.0, b.0.1) x b.2) made, rules.0, rules.1)

ending_again : (both : Bool) (count : ℕ) (failing : Failing) (rest : List ℕ) (offset : ℕ) → has_ending both failing ≡ true → is_there failing count ≡ true
    → count ≤ 255 → ending both count (offset, ending_code failing ∷ rest) ≡ Ok (failing, (offset + 1, rest))
ending_again both count failing rest offset has there few =
    let read = ap (λ (r : Read ℕ). behind r (λ code. done (ending_of code))) (byte_again (ending_code failing) rest offset)
    ∙ ap (λ (f : Failing). whole_read (f, (offset + 1, rest))) (ending_is failing count there few) in
    such_again one_byte (passes both count) (offset, ending_code failing ∷ rest) failing (offset + 1, rest) read
    (and_from (has_ending both failing) (is_there failing count) has there)

-- The body of the text.

abbrev stored : Option (List ℕ) × Model → Failing → List ThreadPath → StoredLog
stored h failing ts = record { digest = h.0; log = record { model = h.1; failing = failing; threads = ts } }

-- the threads that were read are those of a log
pub are_a_log : (as_runs : Bool) (m : Model) (count : ℕ) (failing : Failing) (place after : Place) (ts : List ThreadPath) → is_there failing count ≡ true
    → threads as_runs count None place ≡ Ok (ts, after) → is_log (record { model = m; failing = failing; threads = ts }) ≡ true
are_a_log as_runs m count failing place after ts there e =
    let rises = threads_rise as_runs count None place (ts, after) e in
    and_from (rises_from None ts) (is_there failing (length ts)) rises.0 (subst (λ (n : ℕ). is_there failing n ≡ true) (sym rises.1) there)

body_takes : (place : Place) (x : StoredLog × Place) → AreBytes place.1 → body place ≡ Ok x → Takes place.1 (log_text x.0) x.1.1 × HasText x.0
unfolding body
body_takes place x h e =
    let a = behind_ok (head place) (λ h. (byte such is_within 1 255) >>= λ count. ending (is_some h.0) count >>= λ failing.
    threads (is_some h.0) count None >>= λ ts. done (stored h failing ts)) x e in
    let b = behind_ok ((byte such is_within 1 255) a.0.1) (λ count. ending (is_some a.0.0.0) count >>= λ failing.
    threads (is_some a.0.0.0) count None >>= λ ts. done (stored a.0.0 failing ts)) x a.2 in
    let c = behind_ok (ending (is_some a.0.0.0) b.0.0 b.0.1) (λ failing. threads (is_some a.0.0.0) b.0.0 None >>= λ ts. done (stored a.0.0 failing ts)) x b.2 in
    let d = behind_ok (threads (is_some a.0.0.0) b.0.0 None c.0.1) (λ ts. done (stored a.0.0 c.0.0 ts)) x c.2 in
    let t0 = head_takes place a.0 h a.1 in
    let t1 = byte_takes a.0.1 b.0 t0.0.are (such_passes byte (is_within 1 255) a.0.1 b.0 b.1).0 in
    let t2 = ending_takes (is_some a.0.0.0) b.0.0 b.0.1 c.0 t1.0.are c.1 in
    let t3 = threads_take (is_some a.0.0.0) b.0.0 None c.0.1 d.0 t2.0.are d.1 in
    let len = (threads_rise (is_some a.0.0.0) b.0.0 None c.0.1 d.0 d.1).1 in
    let few : b.0.0 < 256 = t1.1 in
    let text = flat_map (thread_text (is_some a.0.0.0)) d.0.0 in
    let counted : Takes a.0.1.1 (length d.0.0 ∷ []) b.0.1.1 = subst (λ (n : ℕ). Takes a.0.1.1 (n ∷ []) b.0.1.1) (sym len) t1.0 in
    let last_two = Takes-then b.0.1.1 (ending_code c.0.0 ∷ []) c.0.1.1 text d.0.1.1 t2.0 t3.0 in
    let last_three = Takes-then a.0.1.1 (length d.0.0 ∷ []) b.0.1.1 (ending_code c.0.0 ∷ text) d.0.1.1 counted last_two in
    let all = Takes-then place.1 (head_text a.0.0.0 a.0.0.1) a.0.1.1 (length d.0.0 ∷ ending_code c.0.0 ∷ text) d.0.1.1 t0.0 last_three in
    subst (λ (y : StoredLog × Place). Takes place.1 (log_text y.0) y.1.1 × HasText y.0) (read_is (stored a.0.0 c.0.0 d.0.0, d.0.1) x d.2) (
      all,
      record {
        is_log = are_a_log (is_some a.0.0.0) a.0.0.1 b.0.0 c.0.0 c.0.1 d.0.1 d.0.0 t2.2 d.1;
        is_of_format = and_from (leb (length d.0.0) 255) (list_all is_thread d.0.0) (le-leb (length d.0.0) 255 (omega arith)) t3.1;
        has_ending = t2.1;
        is_digest = t0.1;
      },
    )

some_there : (failing : Failing) (count : ℕ) → is_there failing count ≡ true → 0 < count
some_there (Thread k) count there = let lt = ltb-true k count there in omega arith
some_there Deadlock count there = ltb-true 0 count there

body_again : (s : StoredLog) (rest : List ℕ) (offset : ℕ) → HasText s → ReadsAs (body (offset, log_text s ++ rest)) s rest
unfolding body
body_again s rest offset h =
    let ts = s.log.threads in
    let failing = s.log.failing in
    let count = length ts in
    let is = and_parts (rises_from None ts) (is_there failing count) h.is_log in
    let some = some_there failing count is.1 in
    let format = and_parts (leb count 255) (list_all is_thread ts) h.is_of_format in
    let few = leb-true count 255 format.0 in
    let as_runs = is_some s.digest in
    let text = flat_map (thread_text as_runs) ts in
    let code = ending_code failing in
    let behind_head = count ∷ code ∷ (text ++ rest) in
    let split : log_text s ++ rest ≡ head_text s.digest s.log.model
    ++ behind_head = append_assoc (head_text s.digest s.log.model) (count ∷ code ∷ text) rest in
    let first = head_again s.digest s.log.model behind_head offset h.is_digest in
    let second = such_again byte (is_within 1 255) (first.end, behind_head) count (first.end + 1, code ∷ (text ++ rest))
    (byte_again count (code ∷ (text ++ rest)) first.end) (within_again 1 255 count (omega arith) few) in
    let third = ending_again as_runs count failing (text ++ rest) (first.end + 1) h.has_ending is.1 few in
    let last = threads_again as_runs ts None rest (first.end + 1 + 1) is.0 format.1 in
    record {
      end = last.end;
      read_is = ap (λ (x : List ℕ). body (offset, x)) split
          ∙ (ap (λ (r : Read (Option (List ℕ) × Model)). behind r (λ h. (byte such is_within 1 255) >>= λ count. ending (is_some h.0) count >>= λ failing.
          threads (is_some h.0) count None >>= λ ts. done (stored h failing ts))) first.read_is
          ∙ (ap (λ (r : Read ℕ). behind r (λ count. ending as_runs count >>= λ failing.
          threads as_runs count None >>= λ ts. done (stored (s.digest, s.log.model) failing ts))) second
          ∙ (ap (λ (r : Read Failing). behind r (λ failing. threads as_runs count None >>= λ ts. done (stored (s.digest, s.log.model) failing ts))) third
          ∙ ap (λ (r : Read (List ThreadPath)). behind r (λ ts. done (stored (s.digest, s.log.model) failing ts))) last.read_is)));
    }

-- Whole texts.

whole_takes : (text : List ℕ) (x : StoredLog × Place) → AreBytes text → whole (0, text) ≡ Ok x → HasText x.0 × (text ≡ log_text x.0)
unfolding whole
whole_takes text x h e =
    let a = behind_ok (body (0, text)) (λ s. ended >>= λ _. done s) x e in
    let b = behind_ok (ended a.0.1) (λ _. done a.0.0) x a.2 in
    let g = guard_ok (eqb (length a.0.1.1) 0) a.0.1.0 (tt, a.0.1) b.0 b.1 in
    let t = body_takes (0, text) a.0 h a.1 in
    let nothing : a.0.1.1 ≡ [] = nil_from_length a.0.1.1 (eqb-true _ _ g.0) in
    let all : text ≡ log_text a.0.0 = t.0.parts ∙ (ap (λ (r : List ℕ). log_text a.0.0 ++ r) nothing ∙ append-nil (log_text a.0.0)) in
    subst (λ (y : StoredLog × Place). HasText y.0 × (text ≡ log_text y.0)) (read_is (a.0.0, b.0.1) x b.2) (t.1, all)

pub is_read : (text : List ℕ) (x : StoredLog × Place) → AreBytes text → whole (0, text) ≡ Ok x → IsLog text x.0
is_read text x h e = record { are_bytes = h; end = x.1; reads = e }

pub whole_again : (s : StoredLog) → HasText s → ReadsAs (whole (0, log_text s)) s []
unfolding whole
whole_again s h =
    let first = body_again s [] 0 h in
    record {
      end = first.end;
      read_is = ap (λ (x : List ℕ). whole (0, x)) (sym (append-nil (log_text s)))
          ∙ ap (λ (r : Read StoredLog). behind r (λ s. ended >>= λ _. done s)) first.read_is;
    }

-- The laws.

-- a log that is read has that text
pub has_text : {text : List ℕ} {log : StoredLog} → IsLog text log → HasText log
has_text {text} {log} is = (whole_takes text (log, is.end) is.are_bytes is.reads).0

pub text_is : {text : List ℕ} {log : StoredLog} → IsLog text log → text ≡ log_text log
text_is {text} {log} is = (whole_takes text (log, is.end) is.are_bytes is.reads).1

pub is_log_of : (text : List ℕ) (log : StoredLog) → AreBytes text → HasText log → text ≡ log_text log → IsLog text log
is_log_of text log h has is =
    let a = whole_again log has in
    record { are_bytes = h; end = (a.end, []); reads = ap (λ (x : List ℕ). whole (0, x)) is ∙ a.read_is }

pub one_log : (text : List ℕ) (this that : StoredLog) → IsLog text this → IsLog text that → this ≡ that
one_log text this that h k =
    let same = read_is (this, h.end) (that, k.end) (sym h.reads ∙ k.reads) in
    ap (λ (x : StoredLog × Place). x.0) same

pub whole_text : (this that : StoredLog) (more : List ℕ) → HasText this → HasText that → log_text this ++ more ≡ log_text that → more ≡ []
whole_text this that more h k e =
    let a = body_again this more 0 h in
    let b = body_again that [] 0 k in
    let same = read_is (this, (a.end, more)) (that, (b.end, []))
    (sym a.read_is ∙ (ap (λ (x : List ℕ). body (0, x)) (e ∙ sym (append-nil (log_text that))) ∙ b.read_is)) in
    ap (λ (x : StoredLog × Place). x.1.1) same

some_fault_of : (text : List ℕ) (read : Read StoredLog) → whole (0, text) ≡ read → AreBytes text → ((log : StoredLog) → IsLog text log → ⊥)
    → (offset : ℕ) × BreaksAt text offset
some_fault_of text (Ok x) e h none = absurd (none x.0 (is_read text x h e))
some_fault_of text (Err offset) e h none = (offset, e)

pub some_fault : (text : List ℕ) → AreBytes text → ((log : StoredLog) → IsLog text log → ⊥) → (offset : ℕ) × BreaksAt text offset
some_fault text h none = some_fault_of text (whole (0, text)) refl h none

pub one_fault : (text : List ℕ) (this that : ℕ) → BreaksAt text this → BreaksAt text that → this ≡ that
one_fault text this that h k = let same = sym h ∙ k in cc

pub log_or_fault : (text : List ℕ) (log : StoredLog) (offset : ℕ) → IsLog text log → BreaksAt text offset → ⊥
log_or_fault text log offset h breaks = let same = sym h.reads ∙ breaks in cc

-- The reader's answers at a log's text.

pub only_memory : (fault : LogFault) (text : List ℕ) → Fails fault (whole (0, text)) → (s : StoredLog) → IsLog text s → fault ≡ Memory
only_memory Memory text h s is = refl
only_memory (Form offset) text h s is = absurd (log_or_fault text s offset is h)

pub same_log : (text : List ℕ) (x : StoredLog × Place) → AreBytes text → whole (0, text) ≡ Ok x → (s : StoredLog) → IsLog text s → x.0 ≡ s
same_log text x h e s is = one_log text x.0 s (is_read text x h e) is
