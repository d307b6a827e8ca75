-- Names stand for what they mean.
use Rattle.std.proofs.Common.{◌≡◌, ℕ, ◌+◌, Bool, true, false, cond, List, [], ◌∷◌, ◌++◌, length, map, Option, Some, bytes_eq, refl, subst}
use Rattle.tc_names.specs.declared.scope.Declaration.{Declaration}
use Rattle.tc_names.specs.declared.scope.Meaning.{Meaning}
use Rattle.tc_names.specs.Names.{
  name_text,
  meaning_in,
  global_declaration,
  thread_declaration,
  parameter_declaration,
  local_declaration,
  own_declarations,
  program_declarations,
}
use Rattle.tc_tree.specs.declared.expression.Name.{Name}
use Rattle.tc_tree.specs.declared.program.Global.{Global}
use Rattle.tc_tree.specs.declared.program.Global.TheVariants.{Int, Array, Mutex, Condition}
use Rattle.tc_tree.specs.declared.program.Local.{Local}
use Rattle.tc_tree.specs.declared.program.Local.TheVariants.{Int as LocalInt, Handle}
use Rattle.tc_tree.specs.Grammar.{Thread, Body, Program}
use Rattle.tc_lower.specs.declared.tables.Numbers.{Numbers}
use Rattle.tc_lower.specs.declared.things.Named.{Named}
use Rattle.tc_lower.specs.declared.things.Thing.{Thing}
use Rattle.tc_lower.specs.Things.{
  thing_in,
  own_first,
  thing_in_scope,
  past_global,
  globals_from,
  no_numbers,
  threads_from,
  parameters_from,
  locals_from,
  own_things,
  program_things,
}
use Rattle.tc_lower.specs.Kinds.{IsOfKind, Agree}

-- declarations and names, one for one
abbrev Alike : List Declaration → List Named → Type 0
Alike [] [] = Unit {0}
Alike (d ∷ ds) (n ∷ ns) = (d.name ≡ n.name) × IsOfKind d.meaning n.thing × Alike ds ns
Alike _ _ = ⊥

alike_append : (ds : List Declaration) (ns : List Named) (es : List Declaration) (ms : List Named) → Alike ds ns → Alike es ms → Alike (ds ++ es) (ns ++ ms)
alike_append [] [] es ms h g = g
alike_append (d ∷ ds) (n ∷ ns) es ms h g = (h.0, h.1, alike_append ds ns es ms h.2 g)
alike_append [] (n ∷ ns) es ms h g = absurd h
alike_append (d ∷ ds) [] es ms h g = absurd h

parameters_alike : (slot : ℕ) (xs : List Name) → Alike (map parameter_declaration xs) (parameters_from slot xs)
parameters_alike slot [] = tt
parameters_alike slot (x ∷ xs) = (refl, tt, parameters_alike (slot + 1) xs)

locals_alike : (slot handle : ℕ) (ls : List Local) → Alike (map local_declaration ls) (locals_from slot handle ls)
locals_alike slot handle [] = tt
locals_alike slot handle (LocalInt x ∷ ls) = (refl, tt, locals_alike (slot + 1) handle ls)
locals_alike slot handle (Handle x ∷ ls) = (refl, tt, locals_alike slot (handle + 1) ls)

globals_alike : (n : Numbers) (gs : List Global) → Alike (map global_declaration gs) (globals_from n gs)
globals_alike n [] = tt
globals_alike n (Int x i ∷ gs) = (refl, tt, globals_alike (past_global n (Int x i)) gs)
globals_alike n (Array a size ∷ gs) = (refl, tt, globals_alike (past_global n (Array a size)) gs)
globals_alike n (Mutex m ∷ gs) = (refl, tt, globals_alike (past_global n (Mutex m)) gs)
globals_alike n (Condition c ∷ gs) = (refl, tt, globals_alike (past_global n (Condition c)) gs)

threads_alike : (function : ℕ) (ts : List Thread) → Alike (map thread_declaration ts) (threads_from function ts)
threads_alike function [] = tt
threads_alike function (t ∷ ts) = (refl, refl, threads_alike (function + 1) ts)

-- ---- look-ups

agree_first : (b : Bool) (m : Meaning) (t : Thing) (o : Option Meaning) (q r : Option Thing) → IsOfKind m t → Agree o (own_first q r)
    → Agree (cond b (Some m) o) (own_first (cond b (Some t) q) r)
agree_first true m t o q r h g = h
agree_first false m t o q r h g = g

agree_one : (b : Bool) (m : Meaning) (t : Thing) (o : Option Meaning) (q : Option Thing) → IsOfKind m t → Agree o q
    → Agree (cond b (Some m) o) (cond b (Some t) q)
agree_one true m t o q h g = h
agree_one false m t o q h g = g

module _ (source : List ℕ) (x : Name) where
  found_alike : (ds : List Declaration) (ns : List Named) → Alike ds ns → Agree (meaning_in source ds x) (thing_in source ns x)
  found_alike [] [] h = tt
  found_alike (d ∷ ds) (n ∷ ns) h =
      subst (λ y. Agree (meaning_in source (d ∷ ds) x) (cond (bytes_eq (name_text source y) (name_text source x)) (Some n.thing) (thing_in source ns x))) h.0
      (agree_one (bytes_eq (name_text source d.name) (name_text source x)) d.meaning n.thing (meaning_in source ds x) (thing_in source ns x) h.1
      (found_alike ds ns h.2))
  found_alike [] (n ∷ ns) h = absurd h
  found_alike (d ∷ ds) [] h = absurd h

  scope_alike : (ds : List Declaration) (ns : List Named) (es : List Declaration) (ms : List Named) → Alike ds ns → Alike es ms
      → Agree (meaning_in source (ds ++ es) x) (own_first (thing_in source ns x) (thing_in source ms x))
  scope_alike [] [] es ms h g = found_alike es ms g
  scope_alike (d ∷ ds) (n ∷ ns) es ms h g =
      subst (λ y. Agree (meaning_in source (d ∷ (ds ++ es)) x)
      (own_first (cond (bytes_eq (name_text source y) (name_text source x)) (Some n.thing) (thing_in source ns x)) (thing_in source ms x))) h.0
      (agree_first (bytes_eq (name_text source d.name) (name_text source x)) d.meaning n.thing (meaning_in source (ds ++ es) x) (thing_in source ns x)
      (thing_in source ms x) h.1 (scope_alike ds ns es ms h.2 g))
  scope_alike [] (n ∷ ns) es ms h g = absurd h
  scope_alike (d ∷ ds) [] es ms h g = absurd h

pub names_agree : (source : List ℕ) (p : Program) (parameters : List Name) (b : Body) (x : Name)
    → Agree (meaning_in source (own_declarations parameters b.locals ++ program_declarations p) x)
    (thing_in_scope source (own_things parameters b.locals) (program_things p.globals p.threads) x)
names_agree source p parameters b x =
    scope_alike source x (own_declarations parameters b.locals) (own_things parameters b.locals) (program_declarations p)
    (program_things p.globals p.threads)
    (alike_append (map parameter_declaration parameters) (parameters_from 0 parameters) (map local_declaration b.locals)
    (locals_from (length parameters) 0 b.locals) (parameters_alike 0 parameters) (locals_alike (length parameters) 0 b.locals))
    (alike_append (map global_declaration p.globals) (globals_from no_numbers p.globals) (map thread_declaration p.threads) (threads_from 0 p.threads)
    (globals_alike no_numbers p.globals) (threads_alike 0 p.threads))
