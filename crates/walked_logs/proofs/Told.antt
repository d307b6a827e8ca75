-- What a path says of mutexes, children and its last step, by its steps.
use Rattle.std.proofs.Common.{◌≡◌, ◌∙◌, ◌⊎◌, inl, inr, ℕ, zero, suc, ◌+◌, Bool, true, false, List, [], ◌∷◌, ◌++◌, length, Option, Some, None, Ok}
use Rattle.std.proofs.Common.{refl, sym, ap, subst, arith, append_assoc, append-nil, slice_index_or, slice_set, replicate}
use Rattle.std.specs.Prelude.{unwrap_or}
use Rattle.std.specs.List.{cons_option}
use Rattle.std.proofs.lemmas.List.{length-append}
use Rattle.log_walk.specs.tc_base.declared.handle.Handle.{Handle}
use Rattle.log_walk.specs.tc_base.declared.handle.Handle.TheVariants.{Unset, Child, Joined}
use Rattle.log_walk.specs.tc_code.Code.{Code}
use Rattle.log_walk.specs.tc_code.Step.{handles_of, child_number}
use Rattle.log_walk.specs.tc_code.declared.instr.Instr.{Instr}
use Rattle.log_walk.specs.tc_code.declared.instr.Instr.TheVariants.{Lock, Unlock, Sleep, Wake, Create, Join, Exit}
use Rattle.normal_logs.proofs.run_history.of_pending.In.{In, in_append, in_left, in_right}
use Rattle.log_walk.specs.path_walk.Fits.{starts, started}
use Rattle.log_walk.specs.path_walk.Marks.{Marks, marks_at_start, marks_after_instr, marks_after, handle_in}
use Rattle.log_walk.specs.path_walk.Steps.{Step, step_at, steps_at, places_from, end_from, is_site}
use Rattle.log_walk.proofs.path_walk.Places.{Unrolled, unrolled, end_more}
use Rattle.log_walk.specs.Told.{Told, untold, is_create, told_by, told_from}
use Rattle.log_walk.proofs.Follows.{more}

-- Thread variables, as numbers and as handles.

-- each number is that of a handle: 0 where no child is left to join
abbrev pub AreNumbers : List ℕ → List Handle → Type 0
AreNumbers [] [] = Unit {0}
AreNumbers [] (h ∷ hs) = ⊥
AreNumbers (c ∷ cs) [] = ⊥
AreNumbers (c ∷ cs) (h ∷ hs) = (child_number h ≡ c) × AreNumbers cs hs

all_unset : (n : ℕ) → AreNumbers (replicate n 0) (replicate n Unset)
all_unset zero = tt
all_unset (suc n) = (refl, all_unset n)

pub number_at : (cs : List ℕ) (hs : List Handle) (k : ℕ) → AreNumbers cs hs → child_number (slice_index_or hs k Unset) ≡ slice_index_or cs k 0
number_at [] [] k all = refl
number_at [] (h ∷ hs) k all = absurd all
number_at (c ∷ cs) [] k all = absurd all
number_at (c ∷ cs) (h ∷ hs) zero all = all.0
number_at (c ∷ cs) (h ∷ hs) (suc k) all = number_at cs hs k all.1

set_both : (cs : List ℕ) (hs : List Handle) (k c : ℕ) (h : Handle) → AreNumbers cs hs → child_number h ≡ c → AreNumbers (slice_set cs k c) (slice_set hs k h)
set_both [] [] k c h all is = tt
set_both [] (y ∷ hs) k c h all is = absurd all
set_both (x ∷ cs) [] k c h all is = absurd all
set_both (x ∷ cs) (y ∷ hs) zero c h all is = (is, all.1)
set_both (x ∷ cs) (y ∷ hs) (suc k) c h all is = (all.0, set_both cs hs k c h all.1 is)

-- One step.

pub record Alike (t : Told) (m : Marks) : Type 0 where
  pub held : t.held ≡ m.held
  pub numbers : AreNumbers t.children m.handles
  pub count : length t.created ≡ m.children

pub alike_first : (code : Code) (f : ℕ) → Alike (untold code f) (marks_at_start code f)
alike_first code f = record { held = refl; numbers = all_unset (handles_of code f); count = refl }

alike_step : (t : Told) (m : Marks) (i : Instr) (to : ℕ) → Alike t m → Alike (told_by t i to) (marks_after_instr m i)
alike_step t m (Lock l) to a = record { held = ap (λ hs. slice_set hs l true) a.held; numbers = a.numbers; count = a.count }
alike_step t m (Unlock l) to a = record { held = ap (λ hs. slice_set hs l false) a.held; numbers = a.numbers; count = a.count }
alike_step t m (Sleep c l) to a = record { held = ap (λ hs. slice_set hs l false) a.held; numbers = a.numbers; count = a.count }
alike_step t m (Wake c l) to a = record { held = ap (λ hs. slice_set hs l true) a.held; numbers = a.numbers; count = a.count }
alike_step t m (Create h f es) to a = record {
  held = a.held;
  numbers = set_both t.children m.handles h (length t.created + 1) (Child (m.children + 1)) a.numbers (ap (λ n. n + 1) (sym a.count));
  count = length-append t.created (f ∷ []) ∙ ap (λ n. n + 1) a.count;
}
alike_step t m (Join h) to a = record {
  held = a.held;
  numbers = set_both t.children m.handles h 0 (Joined (child_number (handle_in m h))) a.numbers refl;
  count = a.count;
}
alike_step t m i to a = record { held = a.held; numbers = a.numbers; count = a.count }

created_step : (t : Told) (i : Instr) (to : ℕ) → (told_by t i to).created ≡ t.created ++ cons_option (starts i) []
created_step t (Create h f es) to = refl
created_step t i to = sym (append-nil t.created)

cons_front : (o : Option ℕ) (xs : List ℕ) → cons_option o [] ++ xs ≡ cons_option o xs
cons_front None xs = refl
cons_front (Some x) xs = refl

-- an instruction joins the child of that number
abbrev pub JoinsNow : Marks → Instr → ℕ → Type 0
JoinsNow m (Join h) k = child_number (handle_in m h) ≡ k
JoinsNow m _ k = ⊥

-- a step joins the child of that number
abbrev pub Joins : Marks → List Step → ℕ → Type 0
Joins m [] k = ⊥
Joins m (s ∷ ss) k = JoinsNow m s.instr k ⊎ Joins (marks_after_instr m s.instr) ss k

only : (c k : ℕ) → In k (c ∷ []) → c ≡ k
only c k (inl same) = same
only c k (inr i) = absurd i

joined_step : (t : Told) (m : Marks) (i : Instr) (to k : ℕ) → Alike t m → In k (told_by t i to).joined → In k t.joined ⊎ JoinsNow m i k
joined_step t m (Join h) to k a i =
    let c = slice_index_or t.children h 0 in
    elim (in_append k t.joined (c ∷ []) i) [
      | inl old ↦ inl old
      | inr new ↦ inr (number_at t.children m.handles h a.numbers ∙ only c k new)
    ]
joined_step t m x to k a i = inl i

joins_step : (t : Told) (m : Marks) (i : Instr) (to k : ℕ) → Alike t m → JoinsNow m i k → In k (told_by t i to).joined
joins_step t m (Join h) to k a j =
    let c = slice_index_or t.children h 0 in
    in_right k t.joined (c ∷ []) (inl (sym (number_at t.children m.handles h a.numbers) ∙ j))
joins_step t m x to k a j = absurd j

still_joined : (t : Told) (i : Instr) (to k : ℕ) → In k t.joined → In k (told_by t i to).joined
still_joined t (Join h) to k i = in_left k t.joined (slice_index_or t.children h 0 ∷ []) i
still_joined t x to k i = i

-- whether the last step is of a kind, and this where there is none
abbrev pub last_of : (Instr → Bool) → Bool → List Step → Bool
last_of kind b [] = b
last_of kind b (s ∷ ss) = last_of kind (kind s.instr) ss

-- All steps of a path.

pub record After (code : Code) (f n : ℕ) (o : List Bool) (t : Told) (m : Marks) (ps : List ℕ) (r : Told) : Type 0 where
  pub alike : Alike r (marks_after m (steps_at code f ps))
  pub created : r.created ≡ t.created ++ started (steps_at code f ps)
  pub place : r.place ≡ end_from code f n t.place o
  pub at_site : r.at_site ≡ last_of is_site t.at_site (steps_at code f ps)
  pub at_create : r.at_create ≡ last_of is_create t.at_create (steps_at code f ps)
  pub joined : (k : ℕ) → In k r.joined → In k t.joined ⊎ Joins m (steps_at code f ps) k
  pub joins : (k : ℕ) → In k t.joined ⊎ Joins m (steps_at code f ps) k → In k r.joined

module _ (code : Code) (f n : ℕ) (o : List Bool) (t : Told) (m : Marks) (ps : List ℕ) (a : Alike t m) (u : Unrolled code f n t.place o ps)
    (same : (step_at code f t.place).instr ≡ u.instr) where
  abbrev ss : List Step
  ss = steps_at code f u.rest

  abbrev t' : Told
  t' = told_by t u.instr u.next.place

  is : told_from code f (suc n) o t ≡ told_from code f n u.next.outcomes t'
  is = more code f o t t.place refl o refl u.instr u.at (suc n) n u.next (omega arith) u.leads

  module _ (rest : After code f n u.next.outcomes t' (marks_after_instr m (step_at code f t.place).instr) u.rest (told_from code f n u.next.outcomes t')) where
    joined_first : (k : ℕ) → In k (told_from code f n u.next.outcomes t').joined
        → In k t.joined ⊎ Joins m (steps_at code f (t.place ∷ u.rest)) k
    joined_first k i =
        elim (rest.joined k i) [
          | inl new ↦ by (joined_step t m u.instr u.next.place k a new)
          | inr later ↦ inr (inr later)
        ]
      where
        by : In k t.joined ⊎ JoinsNow m u.instr k → In k t.joined ⊎ Joins m (steps_at code f (t.place ∷ u.rest)) k
        by (inl old) = inl old
        by (inr now) = inr (inl (subst (λ i. JoinsNow m i k) (sym same) now))

    joins_first : (k : ℕ) → In k t.joined ⊎ Joins m (steps_at code f (t.place ∷ u.rest)) k
        → In k (told_from code f n u.next.outcomes t').joined
    joins_first k (inl old) = rest.joins k (inl (still_joined t u.instr u.next.place k old))
    joins_first k (inr (inl now)) =
        rest.joins k (inl (joins_step t m u.instr u.next.place k a (subst (λ i. JoinsNow m i k) same now)))
    joins_first k (inr (inr later)) = rest.joins k (inr later)

    further : After code f (suc n) o t m ps (told_from code f (suc n) o t)
    further =
        subst (λ qs. After code f (suc n) o t m qs (told_from code f (suc n) o t)) (sym u.all)
        (subst (After code f (suc n) o t m (t.place ∷ u.rest)) (sym is)
        (record {
          alike = rest.alike;
          created = rest.created
              ∙ ap (λ xs. xs ++ started ss) (created_step t u.instr u.next.place)
              ∙ append_assoc t.created (cons_option (starts u.instr) []) (started ss)
              ∙ ap (λ ys. t.created ++ ys) (cons_front (starts u.instr) (started ss))
              ∙ ap (λ i. t.created ++ cons_option (starts i) (started ss)) (sym same);
          place = rest.place ∙ sym (end_more code f (suc n) n t.place o u.instr u.next (omega arith) u.at u.leads);
          at_site = rest.at_site ∙ ap (λ i. last_of is_site (is_site i) ss) (sym same);
          at_create = rest.at_create ∙ ap (λ i. last_of is_create (is_create i) ss) (sym same);
          joined = joined_first;
          joins = joins_first;
        }))

pub told_along : (code : Code) (f n : ℕ) (o : List Bool) (t : Told) (m : Marks) (ps : List ℕ) → places_from code f n t.place o ≡ Ok ps → Alike t m
    → After code f n o t m ps (told_from code f n o t)
told_along code f zero [] t m ps h a =
    let none : [] ≡ ps = cc in
    subst (λ qs. After code f 0 [] t m qs t) none
    (record {
      alike = a;
      created = sym (append-nil t.created);
      place = refl;
      at_site = refl;
      at_create = refl;
      joined = λ k i. inl i;
      joins = λ k e. elim e [ inl i ↦ i | inr j ↦ absurd j ];
    })
told_along code f zero (b ∷ o) t m ps h a = absurd cc
told_along code f (suc n) o t m ps h a =
    let u : Unrolled code f n t.place o ps = unrolled code f n t.place o ps h in
    let same : (step_at code f t.place).instr ≡ u.instr = ap (λ x. unwrap_or x Exit) u.at in
    further code f n o t m ps a u same
    (told_along code f n u.next.outcomes (told_by t u.instr u.next.place) (marks_after_instr m (step_at code f t.place).instr) u.rest u.told
    (subst (λ i. Alike (told_by t u.instr u.next.place) (marks_after_instr m i)) (sym same) (alike_step t m u.instr u.next.place a)))
