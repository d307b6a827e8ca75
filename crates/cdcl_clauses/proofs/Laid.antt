-- Clauses as they are stored in memory.
use Rattle.std.proofs.Common.{
  ◌≡◌,
  ℕ,
  ◌-◌,
  ◌<◌,
  ◌≤◌,
  List,
  [],
  ◌∷◌,
  ◌++◌,
  map,
  length,
  take,
  drop,
  get_or,
  set,
  refl,
  sym,
  ◌∙◌,
  ap,
  arith,
  length-append,
  length-drop,
}
use Rattle.std.specs.Prelude.{slice_range, All, Result, Ok, Err, OnErr}
use Rattle.std.proofs.Math.Seq.{map-set_same}
use Rattle.std.proofs.lemmas.List.{length-map, map-append, map-set, get_or-map, drop-append-le, take-append-le, drop_at, take_all}
use Rattle.std.proofs.lemmas.List.Elements.{All-head, All-tail}
use Rattle.cdcl_clauses.specs.Clauses.{Clause, at, no_clause}
use Rattle.cdcl_clauses.specs.helpers.Layout.{clause_of, clauses_of, IsThere, IsLaidOut}
use Rattle.cdcl_clauses.specs.declared.clauses.Entry.{Entry}
use Rattle.cdcl_clauses.specs.declared.clauses.Clauses.TheInside.{Inside}

-- appending literals changes no clause
pub slice_range-append : (ls ms : List ℕ) (s e : ℕ) → s ≤ e → e ≤ length ls → slice_range (ls ++ ms) s e ≡ slice_range ls s e
slice_range-append ls ms s e h l =
    ap (take (e - s)) (drop-append-le s ls ms (omega arith)) ∙ take-append-le (e - s) (drop s ls) ms (omega (arith, length-drop s ls))

pub slice_range-appended : (ls ms : List ℕ) → slice_range (ls ++ ms) (length ls) (length (ls ++ ms)) ≡ ms
slice_range-appended ls ms =
    ap (take (length (ls ++ ms) - length ls)) (drop_at ls ms (length ls) refl)
    ∙ take_all (length (ls ++ ms) - length ls) ms (omega (arith, length-append ls ms))

pub same_clause : (ls ms : List ℕ) (e : Entry) → IsThere ls e → clause_of (ls ++ ms) e ≡ clause_of ls e
same_clause ls ms e t = ap (λ (xs : List ℕ). record { literals = xs; first = e.first; second = e.second; kept = e.kept })
    (slice_range-append ls ms e.start e.end t.rises t.within)

pub same_clauses : (ls ms : List ℕ) (es : List Entry) → All (IsThere ls) es → map (clause_of (ls ++ ms)) es ≡ map (clause_of ls) es
same_clauses ls ms [] h = refl
same_clauses ls ms (e ∷ es) h =
    let p : clause_of (ls ++ ms) e ≡ clause_of ls e = same_clause ls ms e (All-head (IsThere ls) e es h) in
    let q : map (clause_of (ls ++ ms)) es ≡ map (clause_of ls) es = same_clauses ls ms es (All-tail (IsThere ls) e es h) in
    ap (λ (c : Clause). c ∷ map (clause_of (ls ++ ms)) es) p ∙ ap (λ (cs : List Clause). clause_of ls e ∷ cs) q

-- the clause with a number, from its entry
pub clause_at : (a : Inside) (cs : List Clause) → clauses_of a ≡ cs → (k : ℕ) (e : Entry) → k < length a.entries.items
    → e ≡ get_or a.entries.items k e → at cs k ≡ clause_of a.literals.items e
clause_at a cs v k e h r =
    ap (λ (cs : List Clause). get_or cs k no_clause) (sym v) ∙ get_or-map (clause_of a.literals.items) a.entries.items k e no_clause h
    ∙ ap (clause_of a.literals.items) (sym r)

-- a fact holds after an error
pub on_err : {T E P : Type 0} (r : Result T E) → P → OnErr r P
on_err (Ok x) p = tt
on_err (Err e) p = p

pub pushed : (a : Inside) (cs : List Clause) → clauses_of a ≡ cs → IsLaidOut a → (ms : List ℕ) (e : Entry) → e.start ≡ length a.literals.items
    → e.end ≡ length (a.literals.items ++ ms) → map (clause_of (a.literals.items ++ ms)) (a.entries.items ++ e ∷ []) ≡ cs ++ record
    { literals = ms; first = e.first; second = e.second; kept = e.kept } ∷ []
pushed a cs v s ms e es ee =
    let ls : List ℕ = a.literals.items in
    let p : slice_range (ls ++ ms) e.start e.end ≡ ms = ap (λ (x : ℕ). slice_range (ls ++ ms) x e.end) es ∙ ap (slice_range (ls ++ ms) (length ls)) ee
    ∙ slice_range-appended ls ms in
    let q : clause_of (ls ++ ms) e ≡ record { literals = ms; first = e.first; second = e.second; kept = e.kept } =
    ap (λ (xs : List ℕ). record { literals = xs; first = e.first; second = e.second; kept = e.kept }) p in
    map-append (clause_of (ls ++ ms)) a.entries.items (e ∷ [])
    ∙ ap (λ (ds : List Clause). ds ++ clause_of (ls ++ ms) e ∷ []) (same_clauses ls ms a.entries.items s ∙ v)
    ∙ ap (λ (c : Clause). cs ++ c ∷ []) q

-- an entry is replaced
pub replaced : (a : Inside) (cs : List Clause) → clauses_of a ≡ cs → (k : ℕ) (e : Entry) (c : Clause) → clause_of a.literals.items e ≡ c
    → map (clause_of a.literals.items) (set a.entries.items k e) ≡ set cs k c
replaced a cs v k e c h = map-set (clause_of a.literals.items) a.entries.items k e
    ∙ ap (λ (ds : List Clause). set ds k (clause_of a.literals.items e)) v ∙ ap (set cs k) h

pub touched : (a : Inside) (cs : List Clause) → clauses_of a ≡ cs → (k : ℕ) (d e : Entry) → k < length a.entries.items
    → d ≡ get_or a.entries.items k d → clause_of a.literals.items e ≡ clause_of a.literals.items d
    → map (clause_of a.literals.items) (set a.entries.items k e) ≡ cs
touched a cs v k d e h r f = map-set_same (clause_of a.literals.items) a.entries.items k e d (f ∙ ap (clause_of a.literals.items) r) ∙ v

pub entry_within : (a : Inside) (cs : List Clause) → clauses_of a ≡ cs → (k : ℕ) → k < length cs → k < length a.entries.items
entry_within a cs v k h = omega (arith, ap length v, length-map a.entries.items (clause_of a.literals.items), h)
