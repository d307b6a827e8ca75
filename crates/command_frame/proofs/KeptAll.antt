-- From the keep of one output to the keeps of all.
use Rattle.std.proofs.Common.{arith, ◌≡◌, ◌∙◌, inl, inr, ap, refl, sym, subst, ℕ, suc, ◌+◌, ◌<◌, List, [], ◌∷◌, ◌++◌, length, map, take, drop, get_or, Option, Some}
use Rattle.std.proofs.Math.Seq.{split_at, take-suc}
use Rattle.std.proofs.lemmas.List.{map-append, take-append-drop}
use Rattle.tc_io.specs.Outside.{Files, ShelfTells, Kept, KeptPart, Writing, without_reading, put_under}
use Rattle.command_frame.specs.Keeps.{Keep, FailsToKeep, HoldsFirst, KeptAll, put_all}

-- some keeps were made, and then one more
kept_push : (ks : List Keep) (k : Keep) (old s new : ShelfTells) → KeptAll ks old s → Kept s new k.name k.bytes → KeptAll (ks ++ k ∷ []) old new
kept_push [] k old s new all one = (new, subst (λ o. Kept o new k.name k.bytes) all one, refl)
kept_push (x ∷ ks) k old s new all one = (all.0, all.1, kept_push ks k all.0 s new all.2 one)

-- some keeps were made, and then one failed
fails_after : (ks more : List Keep) (k : Keep) (old s new : ShelfTells) → KeptAll ks old s → KeptPart s new k.name k.bytes
    → FailsToKeep (ks ++ k ∷ more) old new k.name
fails_after [] more k old s new all one = inl (refl, subst (λ o. KeptPart o new k.name k.bytes) all one)
fails_after (x ∷ ks) more k old s new all one = inr (all.0, all.1, fails_after ks more k all.0 s new all.2 one)

-- a keep that is made counts no fault
kept_held : (k : Keep) (old new : ShelfTells) → Kept old new k.name k.bytes → (new.held ≡ put_under k.name k.bytes old.held) × (new.faults ≡ old.faults)
kept_held k old new kept = (ap (λ (s : ShelfTells). s.held) kept, ap (λ (s : ShelfTells). s.faults) kept)

pub first_none : (ks : List Keep) (held : Option Files) → HoldsFirst ks held held
first_none [] held = refl
first_none (k ∷ ks) held = inl refl

-- some keeps were made, and then there was no memory
first_after : (ks more : List Keep) (old s new : ShelfTells) → KeptAll ks old s → new ≡ without_reading s
    → (new.faults ≡ old.faults) × HoldsFirst (ks ++ more) old.held new.held
first_after [] more old s new all none = (
  ap (λ (x : ShelfTells). x.faults) none ∙ ap (λ (x : ShelfTells). x.faults) all,
  subst (λ h. HoldsFirst more old.held h) (sym (ap (λ (x : ShelfTells). x.held) none ∙ ap (λ (x : ShelfTells). x.held) all)) (first_none more old.held),
)
first_after (x ∷ ks) more old s new all none =
    let rest = first_after ks more all.0 s new all.2 none in
    let one = kept_held x old all.0 all.1 in
    (rest.0 ∙ one.1, inr (subst (λ h. HoldsFirst (ks ++ more) h new.held) one.0 rest.1))

-- after all keeps
pub all_held : (ks : List Keep) (old new : ShelfTells) → KeptAll ks old new → (new.held ≡ put_all ks old.held) × (new.faults ≡ old.faults)
all_held [] old new all = (ap (λ (s : ShelfTells). s.held) all, ap (λ (s : ShelfTells). s.faults) all)
all_held (k ∷ ks) old new all =
    let rest = all_held ks all.0 new all.2 in
    let one = kept_held k old all.0 all.1 in
    (rest.0 ∙ ap (put_all ks) one.0, rest.1 ∙ one.1)

pub all_first : (ks : List Keep) (old new : ShelfTells) → KeptAll ks old new → HoldsFirst ks old.held new.held
all_first [] old new all = ap (λ (s : ShelfTells). s.held) all
all_first (k ∷ ks) old new all =
    inr (subst (λ h. HoldsFirst ks h new.held) (kept_held k old all.0 all.1).0 (all_first ks all.0 new all.2))

-- a failed keep is the last fault
pub failed_last : (ks : List Keep) (old new : ShelfTells) (name : List ℕ) → FailsToKeep ks old new name → new.last_fault ≡ Some (Writing name)
failed_last [] old new name fails = absurd fails
failed_last (k ∷ ks) old new name (inl fails) =
    ap (λ (s : ShelfTells). s.last_fault) fails.1.2 ∙ ap (λ n. Some (Writing n)) (sym fails.0)
failed_last (k ∷ ks) old new name (inr later) = failed_last ks later.0 new name later.2

-- the same for a list whose first keeps were made, and then this one or not
module _ {X : Type 0} (plain : X → Keep) (keeps : List X) (i : ℕ) (d : X) (small : i < length keeps) where
  split_keeps : map plain keeps ≡ map plain (take i keeps) ++ plain (get_or keeps i d) ∷ map plain (drop (suc i) keeps)
  split_keeps = ap (map plain) (split_at keeps i d small) ∙ map-append plain (take i keeps) (get_or keeps i d ∷ drop (suc i) keeps)

  more_keeps : map plain (take (i + 1) keeps) ≡ map plain (take i keeps) ++ plain (get_or keeps i d) ∷ []
  more_keeps =
      let next : i + 1 ≡ suc i = omega arith in
      ap (λ j. map plain (take j keeps)) next ∙ (ap (map plain) (take-suc keeps i d small) ∙ map-append plain (take i keeps) (get_or keeps i d ∷ []))

  module _ (old s new : ShelfTells) (all : KeptAll (map plain (take i keeps)) old s) where
    pub next_kept : Kept s new (plain (get_or keeps i d)).name (plain (get_or keeps i d)).bytes → KeptAll (map plain (take (i + 1) keeps)) old new
    next_kept one = subst (λ ks. KeptAll ks old new) (sym more_keeps) (kept_push _ _ old s new all one)

    pub next_failed : KeptPart s new (plain (get_or keeps i d)).name (plain (get_or keeps i d)).bytes
        → FailsToKeep (map plain keeps) old new (plain (get_or keeps i d)).name
    next_failed one = subst (λ ks. FailsToKeep ks old new (plain (get_or keeps i d)).name) (sym split_keeps) (fails_after _ _ _ old s new all one)

pub next_none : {X : Type 0} (plain : X → Keep) (keeps : List X) (i : ℕ) (old s new : ShelfTells) → KeptAll (map plain (take i keeps)) old s
    → new ≡ without_reading s → (new.faults ≡ old.faults) × HoldsFirst (map plain keeps) old.held new.held
next_none plain keeps i old s new all none =
    let split = sym (map-append plain (take i keeps) (drop i keeps)) ∙ ap (map plain) (take-append-drop i keeps) in
    subst (λ ks. (new.faults ≡ old.faults) × HoldsFirst ks old.held new.held) split (first_after _ _ old s new all none)
