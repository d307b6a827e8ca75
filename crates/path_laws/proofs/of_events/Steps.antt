-- The deeds of a thread as the steps of its path.
use Rattle.std.proofs.Common.{◌≡◌, ◌∙◌, ℕ, zero, suc, ◌+◌, ◌<◌, ℤ, Bool, true, false, cond, List, [], ◌∷◌, ◌++◌}
use Rattle.std.proofs.Common.{Option, None, refl, sym, ap, subst, arith}
use Rattle.std.proofs.lemmas.List.Sums.{sum_by-append, sum_by-cons}
use Rattle.std.proofs.lemmas.Option.{same_Some}
use Rattle.path_walk.specs.tc_base.Names.{Name}
use Rattle.path_walk.specs.tc_base.declared.request.Request.{Request}
use Rattle.path_walk.specs.tc_code.Step.{request}
use Rattle.run_follows.proofs.run_laws.Names.{is_same, same_self}
use Rattle.run_follows.specs.run_history.History.{Deed, Did, Drained, same}
use Rattle.run_follows.specs.run_history.Told.{is_step_of, steps_in, failed_in}
use Rattle.run_follows.specs.Follow.{MayFollow}
use Rattle.path_laws.specs.Setting.{Setting}
use Rattle.path_laws.specs.history.Next.{IsNextOnPath}
use Rattle.path_laws.proofs.of_history.Walks.{few_steps}
use Rattle.path_laws.proofs.of_history.Next.{next_on_path, asks_told}
use Rattle.path_laws.specs.history.Along.{HistoryAlong, PathThread}
use Rattle.path_laws.proofs.of_history.Told.{its_run, up_to}

-- the number of steps in two parts of a history
pub steps_both : (xs ys : List Deed) (n : Name) → steps_in (xs ++ ys) n ≡ steps_in xs n + steps_in ys n
steps_both xs ys n = sum_by-append (λ d. cond (is_step_of n d) 1 0) xs ys

pub steps_first : (d : Deed) (h : List Deed) (n : Name) → steps_in (d ∷ h) n ≡ cond (is_step_of n d) 1 0 + steps_in h n
steps_first d h n = sum_by-cons (λ d. cond (is_step_of n d) 1 0) d h

-- a step of a thread in a history, after `k` others of that thread
pub record StepAt (h : List Deed) (n : Name) (k : ℕ) : Type 0 where
  pub older : List Deed
  pub newer : List Deed
  pub number : ℕ
  pub request : Request
  pub took : ℤ
  pub other : Option Name
  pub there : h ≡ older ++ Did n number request took other ∷ newer
  pub before : steps_in older n ≡ k

behind : (d : Deed) (h : List Deed) (n : Name) (k m : ℕ) (s : StepAt h n k) → cond (is_step_of n d) 1 0 + k ≡ m → StepAt (d ∷ h) n m
behind d h n k m s is = record {
  older = d ∷ s.older;
  newer = s.newer;
  number = s.number;
  request = s.request;
  took = s.took;
  other = s.other;
  there = ap (λ g. d ∷ g) s.there;
  before = steps_first d s.older n ∙ ap (λ j. cond (is_step_of n d) 1 0 + j) s.before ∙ is;
}

pub step_at : (h : List Deed) (n : Name) (k : ℕ) → k < steps_in h n → StepAt h n k
step_at [] n k few = absurd (omega (arith, few))
step_at (Drained q i c v ∷ h) n k few =
    let count = steps_first (Drained q i c v) h n in
    behind (Drained q i c v) h n k k (step_at h n k (omega (arith, few, count))) (omega arith)
step_at (Did q i r v o ∷ h) n k few = by (same n q) refl k few (λ m less. step_at h n m less)
  where
    d : Deed
    d = Did q i r v o

    by : (b : Bool) → same n q ≡ b → (k : ℕ) → k < steps_in (d ∷ h) n → ((m : ℕ) → m < steps_in h n → StepAt h n m) → StepAt (d ∷ h) n k
    by true e zero few rest = record {
      older = [];
      newer = h;
      number = i;
      request = r;
      took = v;
      other = o;
      there = ap (λ m. Did m i r v o ∷ h) (sym (is_same n q e));
      before = refl;
    }
    by true e (suc k) few rest =
        let count = steps_first d h n ∙ ap (λ b. cond b 1 0 + steps_in h n) e in
        behind d h n k (suc k) (rest k (omega (arith, few, count))) (ap (λ b. cond b 1 0 + k) e ∙ omega arith)
    by false e k few rest =
        let count = steps_first d h n ∙ ap (λ b. cond b 1 0 + steps_in h n) e in
        behind d h n k k (rest k (omega (arith, few, count))) (ap (λ b. cond b 1 0 + k) e ∙ omega arith)

module _ {B : Type 0} (setting : Setting B) (history : HistoryAlong setting) (thread : PathThread setting.code setting.log) where
  open setting use {machine, ops, bound, code, log}
  open history use {deeds as h, along}
  open thread use {walk as w}

  -- a deed of a thread is the next step of its path after the deeds before it
  pub record IsStep (older : List Deed) (k : ℕ) (r : Request) (took : ℤ) (other : Option Name) : Type 0 where
    pub going : failed_in older ≡ None
    pub may : MayFollow ops.buffered bound code older (Did w.name k r took other)
    pub next : IsNextOnPath code older w
    pub asks : request next.local next.instr ≡ r
    pub done : k < steps_in h w.name

  pub step_is : (older newer : List Deed) (k : ℕ) (r : Request) (took : ℤ) (other : Option Name) → h ≡ older ++ Did w.name k r took other ∷ newer
      → IsStep older k r took other
  step_is older newer k r took other at =
      let d = Did w.name k r took other in
      let f = along.follow older newer d at in
      let left = (its_run setting history).told.threads older newer w.name k r took other at in
      let count : steps_in h w.name ≡ steps_in older w.name + (1 + steps_in newer w.name) =
      ap (λ g. steps_in g w.name) at
      ∙ steps_both older (d ∷ newer) w.name
      ∙ ap (λ m. steps_in older w.name + m) (steps_first d newer w.name ∙ ap (λ b. cond b 1 0 + steps_in newer w.name) (same_self w.name w.name refl)) in
      let few = few_steps setting history thread in
      let x = next_on_path setting (up_to setting history older (d ∷ newer) at) thread f.0 left.there (omega (arith, count, few)) in
      record {
        going = f.0;
        may = f.1;
        next = x;
        asks = same_Some (request x.local x.instr) r (sym (asks_told code older w x) ∙ f.1.asks);
        done = omega (arith, count, f.1.number);
      }

  -- the deed of each step that is done
  pub record DeedOf (k : ℕ) : Type 0 where
    pub older : List Deed
    pub newer : List Deed
    pub request : Request
    pub took : ℤ
    pub other : Option Name
    pub at : h ≡ older ++ Did w.name k request took other ∷ newer
    pub step : IsStep older k request took other

  pub deed_of : (k : ℕ) → k < steps_in h w.name → DeedOf k
  deed_of k few =
      let s = step_at h w.name k few in
      let number : s.number ≡ k = (along.follow s.older s.newer (Did w.name s.number s.request s.took s.other) s.there).1.number ∙ s.before in
      let at = subst (λ i. h ≡ s.older ++ Did w.name i s.request s.took s.other ∷ s.newer) number s.there in
      record {
        older = s.older;
        newer = s.newer;
        request = s.request;
        took = s.took;
        other = s.other;
        at = at;
        step = step_is s.older s.newer k s.request s.took s.other at;
      }
