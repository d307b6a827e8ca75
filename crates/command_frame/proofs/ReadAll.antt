-- From reading one input to reading all, and from the bytes given to those in the shelf's files.
use Rattle.std.proofs.Common.{arith, ◌≡◌, ◌∙◌, ◌⊎◌, inl, inr, ap, ap₂, refl, sym, subst, ℕ, ◌<◌, List, [], ◌∷◌, ◌++◌, length, Some}
use Rattle.std.specs.Prelude.{IfSome}
use Rattle.tc_io.specs.Outside.{Files, Reading, ShelfTells, bytes_at, capped_sum}
use Rattle.command_frame.specs.Inputs.{Limit, Wanted, Whole, Entire, InPieces, Texts, name_of, texts_under}
use Rattle.command_frame.specs.Inputs.{GaveInput, FailedInput, PassedLimit, IsWithinLimit, IsPastLimit}
use Rattle.command_frame.specs.Inputs.{GaveAll, FailsToRead, PassesLimit, IsTooLong, AreWithin}
use Rattle.command_frame.specs.helpers.Failures.{HeldStill, IsWhyMissing}
use Rattle.command_frame.specs.declared.failure.Failure.{Failure}
use Rattle.command_frame.specs.declared.failure.Failure.TheVariants.{Read, TooLong, Write, Memory}

-- some inputs were given, and then others
pub gave_both : (ws vs : List Wanted) (old s new : ShelfTells) (t u : Texts) → GaveAll ws old s t → GaveAll vs s new u
    → GaveAll (ws ++ vs) old new (t ++ u)
gave_both [] vs old s new [] u g h = subst (λ o. GaveAll vs o new u) g h
gave_both [] vs old s new (t ∷ ts) u g h = absurd g
gave_both (w ∷ ws) vs old s new [] u g h = absurd g
gave_both (w ∷ ws) vs old s new (t ∷ ts) u g h = (g.0, g.1, gave_both ws vs g.0 s new ts u g.2 h)

fails_first : (ws vs : List Wanted) (old new : ShelfTells) (name : List ℕ) → FailsToRead ws old new name → FailsToRead (ws ++ vs) old new name
fails_first [] vs old new name f = absurd f
fails_first (w ∷ ws) vs old new name (inl f) = inl f
fails_first (w ∷ ws) vs old new name (inr f) = inr (f.0, f.1, f.2, fails_first ws vs f.0 new name f.3)

fails_later : (ws vs : List Wanted) (old s new : ShelfTells) (t : Texts) (name : List ℕ) → GaveAll ws old s t → FailsToRead vs s new name
    → FailsToRead (ws ++ vs) old new name
fails_later [] vs old s new [] name g f = subst (λ o. FailsToRead vs o new name) g f
fails_later [] vs old s new (t ∷ ts) name g f = absurd g
fails_later (w ∷ ws) vs old s new [] name g f = absurd g
fails_later (w ∷ ws) vs old s new (t ∷ ts) name g f = inr (g.0, t, g.1, fails_later ws vs g.0 s new ts name g.2 f)

passes_first : (ws vs : List Wanted) (old new : ShelfTells) (limit : Limit) → PassesLimit ws old new limit → PassesLimit (ws ++ vs) old new limit
passes_first [] vs old new limit p = absurd p
passes_first (w ∷ ws) vs old new limit (inl p) = inl p
passes_first (w ∷ ws) vs old new limit (inr p) = inr (p.0, p.1, p.2, passes_first ws vs p.0 new limit p.3)

passes_later : (ws vs : List Wanted) (old s new : ShelfTells) (t : Texts) (limit : Limit) → GaveAll ws old s t → PassesLimit vs s new limit
    → PassesLimit (ws ++ vs) old new limit
passes_later [] vs old s new [] limit g p = subst (λ o. PassesLimit vs o new limit) g p
passes_later [] vs old s new (t ∷ ts) limit g p = absurd g
passes_later (w ∷ ws) vs old s new [] limit g p = absurd g
passes_later (w ∷ ws) vs old s new (t ∷ ts) limit g p = inr (g.0, t, g.1, passes_later ws vs g.0 s new ts limit g.2 p)

-- a shelf that gave an input keeps its files and counts no fault
gave_still : (w : Wanted) (old new : ShelfTells) (bytes : List ℕ) → GaveInput w old new bytes → HeldStill old new
gave_still (Whole limit name) old new bytes g = (ap (λ (x : ShelfTells). x.held) g.1, ap (λ (x : ShelfTells). x.faults) g.1)
gave_still (Entire name) old new bytes g = (ap (λ (x : ShelfTells). x.held) g.1, ap (λ (x : ShelfTells). x.faults) g.1)
gave_still (InPieces name) old new bytes g = (ap (λ (x : ShelfTells). x.held) g.0, ap (λ (x : ShelfTells). x.faults) g.0)

pub given_still : (ws : List Wanted) (old s : ShelfTells) (t : Texts) → GaveAll ws old s t → HeldStill old s
given_still [] old s [] g = (ap (λ (x : ShelfTells). x.held) g, ap (λ (x : ShelfTells). x.faults) g)
given_still [] old s (t ∷ ts) g = absurd g
given_still (w ∷ ws) old s [] g = absurd g
given_still (w ∷ ws) old s (t ∷ ts) g =
    let rest = given_still ws g.0 s ts g.2 in
    let first = gave_still w old g.0 t g.1 in
    (rest.0 ∙ first.0, rest.1 ∙ first.1)

-- the first or the second part of the inputs couldn't be read
pub missing_first : (ws vs : List Wanted) (old new : ShelfTells) (f : Failure) → IsWhyMissing ws old new f → IsWhyMissing (ws ++ vs) old new f
missing_first ws vs old new (Read name) h = fails_first ws vs old new name.now h
missing_first ws vs old new (TooLong limit) h = passes_first ws vs old new _ h
missing_first ws vs old new (Write name) h = absurd h
missing_first ws vs old new Memory h = h

pub missing_later : (ws vs : List Wanted) (old s new : ShelfTells) (t : Texts) (f : Failure) → GaveAll ws old s t → IsWhyMissing vs s new f
    → IsWhyMissing (ws ++ vs) old new f
missing_later ws vs old s new t (Read name) g h = fails_later ws vs old s new t name.now g h
missing_later ws vs old s new t (TooLong limit) g h = passes_later ws vs old s new t _ g h
missing_later ws vs old s new t (Write name) g h = absurd h
missing_later ws vs old s new t Memory g h = let still = given_still ws old s t g in (h.0 ∙ still.0, h.1 ∙ still.1)

-- one more fault was counted, of this read, or none was
abbrev pub CountsRead : ShelfTells → ShelfTells → List ℕ → Type 0
CountsRead old new name = ((new.faults ≡ capped_sum old.faults 1) × (new.last_fault ≡ Some (Reading name))) ⊎ (new.faults ≡ old.faults)

counts_later : (old s new : ShelfTells) (name : List ℕ) → s.faults ≡ old.faults → CountsRead s new name → CountsRead old new name
counts_later old s new name still (inl c) = inl (c.0 ∙ ap (λ n. capped_sum n 1) still, c.1)
counts_later old s new name still (inr c) = inr (c ∙ still)

-- a shelf that failed to give an input keeps its files
input_failed : (w : Wanted) (old new : ShelfTells) → FailedInput w old new → (new.held ≡ old.held) × CountsRead old new (name_of w)
input_failed (Whole limit name) old new f =
    (ap (λ (x : ShelfTells). x.held) f.2, inl (ap (λ (x : ShelfTells). x.faults) f.2, ap (λ (x : ShelfTells). x.last_fault) f.2))
input_failed (InPieces name) old new f =
    (ap (λ (x : ShelfTells). x.held) f.2, inl (ap (λ (x : ShelfTells). x.faults) f.2, ap (λ (x : ShelfTells). x.last_fault) f.2))
input_failed (Entire name) old new (inl f) =
    (ap (λ (x : ShelfTells). x.held) f.2, inl (ap (λ (x : ShelfTells). x.faults) f.2, ap (λ (x : ShelfTells). x.last_fault) f.2))
input_failed (Entire name) old new (inr f) = (ap (λ (x : ShelfTells). x.held) f.0, inr (ap (λ (x : ShelfTells). x.faults) f.0))

pub failed_still : (ws : List Wanted) (old new : ShelfTells) (name : List ℕ) → FailsToRead ws old new name
    → (new.held ≡ old.held) × CountsRead old new name
failed_still [] old new name f = absurd f
failed_still (w ∷ ws) old new name (inl f) =
    let one = input_failed w old new f.1 in
    (one.0, subst (CountsRead old new) (sym f.0) one.1)
failed_still (w ∷ ws) old new name (inr f) =
    let rest = failed_still ws f.0 new name f.3 in
    let first = gave_still w old f.0 f.1 f.2 in
    (rest.0 ∙ first.0, counts_later old f.0 new name first.1 rest.1)

-- a shelf with too long an input keeps its files and counts no fault
input_passed : (w : Wanted) (old new : ShelfTells) (limit : Limit) → PassedLimit w old new limit → HeldStill old new
input_passed (Whole own name) old new limit p = (ap (λ (x : ShelfTells). x.held) p.1.0, ap (λ (x : ShelfTells). x.faults) p.1.0)
input_passed (InPieces name) old new limit p = absurd p
input_passed (Entire name) old new limit p = absurd p

pub passed_still : (ws : List Wanted) (old new : ShelfTells) (limit : Limit) → PassesLimit ws old new limit → HeldStill old new
passed_still [] old new limit p = absurd p
passed_still (w ∷ ws) old new limit (inl p) = input_passed w old new limit p
passed_still (w ∷ ws) old new limit (inr p) =
    let rest = passed_still ws p.0 new limit p.3 in
    let first = gave_still w old p.0 p.1 p.2 in
    (rest.0 ∙ first.0, rest.1 ∙ first.1)

-- the bytes given aren't longer than the input's limit
gave_within : (w : Wanted) (old new : ShelfTells) (bytes : List ℕ) → GaveInput w old new bytes → IsWithinLimit w bytes
gave_within (Whole limit name) old new bytes g = g.0
gave_within (InPieces name) old new bytes g = tt
gave_within (Entire name) old new bytes g = tt

pub all_within : (ws : List Wanted) (old new : ShelfTells) (t : Texts) → GaveAll ws old new t → AreWithin ws t
all_within [] old new [] g = tt
all_within [] old new (t ∷ ts) g = absurd g
all_within (w ∷ ws) old new [] g = absurd g
all_within (w ∷ ws) old new (t ∷ ts) g = (gave_within w old g.0 t g.1, all_within ws g.0 new ts g.2)

-- if the shelf tells its files, these are the bytes of the name
gave_told : (files : Files) (w : Wanted) (old new : ShelfTells) (bytes : List ℕ) → GaveInput w old new bytes → old.held ≡ Some files
    → bytes ≡ bytes_at files (name_of w)
gave_told files (Whole limit name) old new bytes g told = subst (λ o. IfSome o (λ f. bytes ≡ bytes_at f name)) told g.2
gave_told files (InPieces name) old new bytes g told = subst (λ o. IfSome o (λ f. bytes ≡ bytes_at f name)) told g.1
gave_told files (Entire name) old new bytes g told = subst (λ o. IfSome o (λ f. bytes ≡ bytes_at f name)) told g.2

pub all_told : (files : Files) (ws : List Wanted) (old new : ShelfTells) (t : Texts) → GaveAll ws old new t → old.held ≡ Some files
    → t ≡ texts_under files ws
all_told files [] old new [] g told = refl
all_told files [] old new (t ∷ ts) g told = absurd g
all_told files (w ∷ ws) old new [] g told = absurd g
all_told files (w ∷ ws) old new (t ∷ ts) g told =
    ap₂ (λ (x : List ℕ) (xs : Texts). x ∷ xs) (gave_told files w old g.0 t g.1 told)
    (all_told files ws g.0 new ts g.2 ((gave_still w old g.0 t g.1).0 ∙ told))

passed_told : (files : Files) (w : Wanted) (old new : ShelfTells) (limit : Limit) → PassedLimit w old new limit → old.held ≡ Some files
    → IsPastLimit w (bytes_at files (name_of w)) limit
passed_told files (Whole own name) old new limit p told = (p.0, subst (λ o. IfSome o (λ f. own.most < length (bytes_at f name))) told p.1.1)
passed_told files (InPieces name) old new limit p told = absurd p
passed_told files (Entire name) old new limit p told = absurd p

-- an input past its limit is the first such one in the shelf's files
pub passes_told : (files : Files) (ws : List Wanted) (old new : ShelfTells) (limit : Limit) → PassesLimit ws old new limit → old.held ≡ Some files
    → IsTooLong ws (texts_under files ws) limit
passes_told files [] old new limit p told = absurd p
passes_told files (w ∷ ws) old new limit (inl p) told = inl (passed_told files w old new limit p told)
passes_told files (w ∷ ws) old new limit (inr p) told =
    inr (
      subst (IsWithinLimit w) (gave_told files w old p.0 p.1 p.2 told) (gave_within w old p.0 p.1 p.2),
      passes_told files ws p.0 new limit p.3 ((gave_still w old p.0 p.1 p.2).0 ∙ told),
    )

-- an input past its limit isn't within it
past_or_within : (w : Wanted) (text : List ℕ) (limit : Limit) → IsPastLimit w text limit → IsWithinLimit w text → ⊥
past_or_within (Whole own name) text limit p h = omega (arith, p.1, h)
past_or_within (InPieces name) text limit p h = p
past_or_within (Entire name) text limit p h = p

pub long_or_within : (ws : List Wanted) (t : Texts) (limit : Limit) → IsTooLong ws t limit → AreWithin ws t → ⊥
long_or_within [] t limit f h = f
long_or_within (w ∷ ws) [] limit f h = f
long_or_within (w ∷ ws) (t ∷ ts) limit (inl f) h = past_or_within w t limit f h.0
long_or_within (w ∷ ws) (t ∷ ts) limit (inr f) h = long_or_within ws ts limit f.1 h.1

-- only one input is the first that is too long
one_past : (w : Wanted) (text : List ℕ) (limit other : Limit) → IsPastLimit w text limit → IsPastLimit w text other → limit ≡ other
one_past (Whole own name) text limit other p q = p.0 ∙ sym q.0
one_past (InPieces name) text limit other p q = absurd p
one_past (Entire name) text limit other p q = absurd p

pub one_too_long : (ws : List Wanted) (t : Texts) (limit other : Limit) → IsTooLong ws t limit → IsTooLong ws t other → limit ≡ other
one_too_long [] t limit other p q = absurd p
one_too_long (w ∷ ws) [] limit other p q = absurd p
one_too_long (w ∷ ws) (t ∷ ts) limit other (inl p) (inl q) = one_past w t limit other p q
one_too_long (w ∷ ws) (t ∷ ts) limit other (inl p) (inr q) = absurd (past_or_within w t limit p q.0)
one_too_long (w ∷ ws) (t ∷ ts) limit other (inr p) (inl q) = absurd (past_or_within w t other q p.0)
one_too_long (w ∷ ws) (t ∷ ts) limit other (inr p) (inr q) = one_too_long ws ts limit other p.1 q.1
