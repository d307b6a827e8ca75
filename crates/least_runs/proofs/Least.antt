-- Removing steps from a run that fails until no more can be removed.
use Rattle.std.proofs.Common.{◌≡◌, ◌∙◌, ◌⊎◌, inl, inr, ℕ, zero, suc, ◌≤◌, ◌==◌, ℤ, Bool, true, false, ◌&&◌, List, [], ◌∷◌, ◌++◌, length}
use Rattle.std.proofs.Common.{Option, Some, refl, sym, ap, subst, arith, append-nil, append_assoc}
use Rattle.std.proofs.lemmas.Bool.{false≢true, and_parts, eqb-true}
use Rattle.std.proofs.lemmas.List.{length-append}
use Rattle.run_follows.specs.tc_base.Names.{Name}
use Rattle.run_follows.specs.tc_base.declared.request.Request.{Request}
use Rattle.run_follows.specs.tc_code.Code.{Code}
use Rattle.run_follows.specs.store_buffers.helpers.Lists.{not_nil}
use Rattle.run_follows.proofs.run_laws.Names.{same_self}
use Rattle.run_follows.specs.run_history.History.{Deed, Did, Drained, same}
use Rattle.run_follows.specs.run_history.Told.{steps_in, failed_in}
use Rattle.run_follows.specs.Machine.{Machine}
use Rattle.run_follows.specs.Follow.{AllFollow}
use Rattle.run_follows.specs.Logged.{path_told}
use Rattle.least_runs.specs.Unused.{is_unused, comes_out}
use Rattle.least_runs.specs.Least.{is_by, IsLeast, IsPart, HasLeast}
use Rattle.least_runs.proofs.Used.{unused_is}
use Rattle.least_runs.proofs.Unseen.{failed_still}
use Rattle.least_runs.proofs.Follows.{left_follows}
use Rattle.least_runs.proofs.Part.{is_part, failing_stays}

-- a step of a thread other than `f` that can be removed
record Out (f : Name) (h : List Deed) : Type 0 where
  older : List Deed
  newer : List Deed
  thread : Name
  number : ℕ
  asks : Request
  took : ℤ
  other : Option Name
  there : h ≡ older ++ Did thread number asks took other ∷ newer
  apart : same thread f ≡ false
  last : steps_in newer thread ≡ 0
  unused : is_unused asks thread other newer ≡ true

out_by : (f n : Name) (k : ℕ) (r : Request) (v : ℤ) (o : Option Name) (newer : List Deed) (b c : Bool) → same n f ≡ b
    → (steps_in newer n == 0 && is_unused r n o newer) ≡ c
    → Out f (Did n k r v o ∷ newer) ⊎ (same n f ≡ false → (steps_in newer n == 0 && is_unused r n o newer) ≡ false)
out_by f n k r v o newer true c own is = inr (λ apart. absurd (false≢true (sym apart ∙ own)))
out_by f n k r v o newer false false own is = inr (λ apart. is)
out_by f n k r v o newer false true own is =
    let both = and_parts (steps_in newer n == 0) (is_unused r n o newer) is in
    inl (record {
      older = [];
      newer = newer;
      thread = n;
      number = k;
      asks = r;
      took = v;
      other = o;
      there = refl;
      apart = own;
      last = eqb-true (steps_in newer n) 0 both.0;
      unused = both.1;
    })

first_out : (f : Name) (d : Deed) (newer : List Deed) → Out f (d ∷ newer) ⊎ (is_by f d ≡ false → comes_out d newer ≡ false)
first_out f (Drained n k c v) newer = inr (λ apart. refl)
first_out f (Did n k r v o) newer = out_by f n k r v o newer _ _ refl refl

further : (f : Name) (x : Deed) (h : List Deed) → Out f h → Out f (x ∷ h)
further f x h o = record {
  older = x ∷ o.older;
  newer = o.newer;
  thread = o.thread;
  number = o.number;
  asks = o.asks;
  took = o.took;
  other = o.other;
  there = ap (λ g. x ∷ g) o.there;
  apart = o.apart;
  last = o.last;
  unused = o.unused;
}

least_first : (f : Name) (x : Deed) (h : List Deed) → (is_by f x ≡ false → comes_out x h ≡ false) → IsLeast f h → IsLeast f (x ∷ h)
least_first f x h kept rest [] newer d is apart =
    let first : x ≡ d = cc in
    let others : h ≡ newer = cc in
    subst (λ g. comes_out d g ≡ false) others (subst (λ e. is_by f e ≡ false → comes_out e h ≡ false) first kept apart)
least_first f x h kept rest (y ∷ older) newer d is apart =
    let others : h ≡ older ++ d ∷ newer = cc in
    rest older newer d others apart

find_out : (f : Name) (h : List Deed) → Out f h ⊎ IsLeast f h
find_out f [] = inr (λ older newer d is apart. absurd (not_nil older d newer (sym is)))
find_out f (x ∷ h) =
    elim (first_out f x h) [
      | inl o ↦ inl o
      | inr kept ↦
          elim (find_out f h) [
            | inl o ↦ inl (further f x h o)
            | inr rest ↦ inr (least_first f x h kept rest)
          ]
    ]

-- a part of a part is a part
whole_part : (code : Code) (h : List Deed) → IsPart code h h
whole_part code h n p is = record { path = p; there = is; later = []; outcomes = sym (append-nil p.outcomes) }

part_of_part : (code : Code) (g i h : List Deed) → IsPart code g i → IsPart code i h → IsPart code g h
part_of_part code g i h first second n p is =
    let a = first n p is in
    let b = second n a.path a.there in
    record {
      path = b.path;
      there = b.there;
      later = a.later ++ b.later;
      outcomes = b.outcomes ∙ ap (λ os. os ++ b.later) a.outcomes ∙ append_assoc p.outcomes a.later b.later;
    }

module _ {B : Type 0} (machine : Machine B) (f : Name) where
  open machine use {ops, bound, code}

  -- a run from which no step can be removed
  itself : (h : List Deed) → AllFollow ops.buffered bound code h → failed_in h ≡ Some f → IsLeast f h → HasLeast ops.buffered bound code h f
  itself h all fails_there least =
      record { deeds = h; run = all; fails = fails_there; least = least; part = whole_part code h; failing = refl }

  -- without the step there is a shorter run that fails in the same thread
  without : (m : ℕ) (h : List Deed) (o : Out f h) → length h ≤ suc m → AllFollow ops.buffered bound code h → failed_in h ≡ Some f
      → ((g : List Deed) → length g ≤ m → AllFollow ops.buffered bound code g → failed_in g ≡ Some f → HasLeast ops.buffered bound code g f)
      → HasLeast ops.buffered bound code h f
  without m h o short all fails_there shorter =
      let deed = Did o.thread o.number o.asks o.took o.other in
      let left = o.older ++ o.newer in
      let used = unused_is o.thread o.asks o.other o.newer o.unused in
      let whole = subst (AllFollow ops.buffered bound code) o.there all in
      let still_fails : failed_in left ≡ Some f =
      sym (failed_still o.thread o.number o.took o.other o.newer o.older o.newer o.asks used) ∙ sym (ap failed_in o.there) ∙ fails_there in
      let count = ap length o.there ∙ length-append o.older (deed ∷ o.newer) in
      let count_left = length-append o.older o.newer in
      let rest = shorter left (omega (arith, short, count, count_left))
      (left_follows machine o.older o.newer o.thread o.number o.asks o.took o.other whole o.last used) still_fails in
      let part = is_part machine o.older o.newer o.thread o.number o.asks o.took o.other whole o.last used in
      let apart : f ≡ o.thread → ⊥ = λ e. false≢true (sym o.apart ∙ same_self o.thread f (sym e)) in
      record {
        deeds = rest.deeds;
        run = rest.run;
        fails = rest.fails;
        least = rest.least;
        part = part_of_part code rest.deeds left h rest.part (subst (IsPart code left) (sym o.there) part);
        failing =
            rest.failing
            ∙ failing_stays machine o.older o.newer o.thread o.number o.asks o.took o.other whole o.last used f apart still_fails
            ∙ ap (λ g. path_told code g f) (sym o.there);
      }

  least_by : (m : ℕ) (h : List Deed) → length h ≤ m → AllFollow ops.buffered bound code h → failed_in h ≡ Some f
      → HasLeast ops.buffered bound code h f
  least_by zero h short all fails_there =
      elim (find_out f h) [
        | inl o ↦
            let count = ap length o.there ∙ length-append o.older (Did o.thread o.number o.asks o.took o.other ∷ o.newer) in
            absurd (omega (arith, short, count))
        | inr least ↦ itself h all fails_there least
      ]
  least_by (suc m) h short all fails_there =
      elim (find_out f h) [
        | inl o ↦ without m h o short all fails_there (least_by m)
        | inr least ↦ itself h all fails_there least
      ]

  pub has_least : (h : List Deed) → AllFollow ops.buffered bound code h → failed_in h ≡ Some f → HasLeast ops.buffered bound code h f
  has_least h all fails_there = least_by (length h) h (omega arith) all fails_there
