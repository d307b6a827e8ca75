-- The place to which the first steps of a path lead.
use Rattle.std.proofs.Common.{◌≡◌, ◌∙◌, ℕ, zero, suc, ◌+◌, ◌<◌, Bool, ◌==◌, ◌&&◌, List, [], ◌∷◌, ◌++◌, length, take, drop}
use Rattle.std.proofs.Common.{Some, Ok, refl, sym, ap, ap₂, arith}
use Rattle.std.specs.Prelude.{slice_get}
use Rattle.std.proofs.lemmas.Option.{none-some, same_Some}
use Rattle.path_walk.specs.tc_code.Code.{Code, instr_at}
use Rattle.path_walk.specs.tc_code.declared.instr.Instr.{Instr}
use Rattle.path_walk.specs.Steps.{Step, Onward, onward, places_from, end_from}
use Rattle.path_walk.specs.Marks.{Marks, Marked, marks_after_instr, marks_after, marked_from}
use Rattle.path_walk.proofs.Places.{unrolled, end_more}
use Rattle.path_laws.proofs.Local.{onward_more}

-- the place to which the steps lead is the next one, and has an instruction
pub record IsNextPlace (code : Code) (f n k : ℕ) (os more : List Bool) (qs : List ℕ) : Type 0 where
  pub place : slice_get qs n ≡ Some (end_from code f n k os)
  pub instr : Instr
  pub at : instr_at code f (end_from code f n k os) ≡ Some instr
  -- the instruction goes on with the outcomes that are left
  pub next : Onward
  pub leads : onward (end_from code f n k os) instr more ≡ Some next

pub next_place : (code : Code) (f n m k : ℕ) (os more : List Bool) (ps qs : List ℕ) → n < m → places_from code f n k os ≡ Ok ps
    → places_from code f m k (os ++ more) ≡ Ok qs → IsNextPlace code f n k os more qs
next_place code f n zero k os more ps qs few h g = absurd (omega (arith, few))
next_place code f zero (suc m) k [] more ps qs few h g =
    let y = unrolled code f m k more qs g in
    record { place = ap (λ xs. slice_get xs 0) y.all; instr = y.instr; at = y.at; next = y.next; leads = y.leads }
next_place code f zero (suc m) k (o ∷ os) more ps qs few h g = absurd cc
next_place code f (suc n) (suc m) k os more ps qs few h g =
    let x = unrolled code f n k os ps h in
    let y = unrolled code f m k (os ++ more) qs g in
    let same : y.instr ≡ x.instr = same_Some y.instr x.instr (sym y.at ∙ x.at) in
    let leads = onward_more k x.instr os more x.next x.leads in
    let next = same_Some y.next _ (sym y.leads ∙ ap (λ i. onward k i (os ++ more)) same ∙ leads) in
    let told : places_from code f m x.next.place (x.next.outcomes ++ more) ≡ Ok y.rest =
    sym (ap (λ (w : Onward). places_from code f m w.place w.outcomes) next) ∙ y.told in
    let less : n < m = omega (arith, few) in
    let one : suc n ≡ n + 1 = omega arith in
    let end : end_from code f (suc n) k os ≡ end_from code f n x.next.place x.next.outcomes = end_more code f (suc n) n k os x.instr x.next one x.at x.leads in
    let rest = next_place code f n m x.next.place x.next.outcomes more x.rest y.rest less x.told told in
    record {
      place = ap (λ xs. slice_get xs (suc n)) y.all ∙ rest.place ∙ ap (λ e. Some e) (sym end);
      instr = rest.instr;
      at = ap (instr_at code f) end ∙ rest.at;
      next = rest.next;
      leads = ap (λ e. onward e rest.instr more) end ∙ rest.leads;
    }

-- the same number of steps leaves no outcome over
pub none_over : (code : Code) (f n k : ℕ) (os more : List Bool) (ps qs : List ℕ) → places_from code f n k os ≡ Ok ps
    → places_from code f n k (os ++ more) ≡ Ok qs → more ≡ []
none_over code f zero k [] [] ps qs h g = refl
none_over code f zero k [] (o ∷ more) ps qs h g = absurd cc
none_over code f zero k (o ∷ os) more ps qs h g = absurd cc
none_over code f (suc n) k os more ps qs h g =
    let x = unrolled code f n k os ps h in
    let y = unrolled code f n k (os ++ more) qs g in
    let same : y.instr ≡ x.instr = same_Some y.instr x.instr (sym y.at ∙ x.at) in
    let leads = onward_more k x.instr os more x.next x.leads in
    let next = same_Some y.next _ (sym y.leads ∙ ap (λ i. onward k i (os ++ more)) same ∙ leads) in
    let told : places_from code f n x.next.place (x.next.outcomes ++ more) ≡ Ok y.rest =
    sym (ap (λ (w : Onward). places_from code f n w.place w.outcomes) next) ∙ y.told in
    none_over code f n x.next.place x.next.outcomes more x.rest y.rest x.told told

-- Marked steps.

-- the marked step with this number
pub marked_at : (fails : Bool) (j : ℕ) (m : Marks) (ss : List Step) (k : ℕ) (s : Step) → slice_get ss k ≡ Some s
    → slice_get (marked_from fails j m ss) k
    ≡ Some (record { number = j + k; step = s; fails = fails && length (drop (suc k) ss) == 0; marks = marks_after m (take k ss) })
marked_at fails j m [] k s at = absurd (none-some s at)
marked_at fails j m (x ∷ ss) zero s at =
    let number : j ≡ j + 0 = omega arith in
    ap₂ (λ n y. Some (the_marked n y)) number (same_Some x s at)
  where
    the_marked : ℕ → Step → Marked
    the_marked n y = record { number = n; step = y; fails = fails && length ss == 0; marks = m }
marked_at fails j m (x ∷ ss) (suc k) s at =
    let number : (j + 1) + k ≡ j + suc k = omega arith in
    marked_at fails (j + 1) (marks_after_instr m x.instr) ss k s at ∙ ap (λ n. Some (the_marked n)) number
  where
    the_marked : ℕ → Marked
    the_marked n = record {
      number = n;
      step = s;
      fails = fails && length (drop (suc k) ss) == 0;
      marks = marks_after (marks_after_instr m x.instr) (take k ss);
    }
