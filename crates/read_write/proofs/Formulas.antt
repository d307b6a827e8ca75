-- The conjuncts of a line's loads are true exactly if the rule holds.
use Rattle.std.proofs.Common.{◌≡◌, ℕ, true, List, [], Option, Some, None, refl, ap, sym, subst, ◌∙◌}
use Rattle.std.specs.Prelude.{IsSome, is_some, option_map}
use Rattle.std.specs.List.{All, Contains}
use Rattle.std.specs.Option.{option_map_or}
use Rattle.std.proofs.lemmas.Bool.{false≢true}
use Rattle.std.proofs.lemmas.List.Elements.{All-contains}
use Rattle.std.proofs.lemmas.Option.{none-some, same_Some}
use Rattle.tc_code.specs.Code.{Code}
use Rattle.path_walk.specs.Paths.{Paths}
use Rattle.sym_terms.specs.declared.node.Node.{Node}
use Rattle.sym_exec.specs.Executed.{Symbolic}
use Rattle.sym_exec.specs.declared.symbolic.Access.{Access}
use Rattle.order_formula.specs.Groups.{HoldsIn}
use Rattle.order_formula.specs.Truth.{body_at}
use Rattle.order_formula.specs.Worlds.{World}
use Rattle.order_formula.specs.declared.formula.Conjunct.{Conjunct}
use Rattle.order_formula.specs.declared.group.Group.TheVariants.{Read}
use Rattle.order_cells.specs.lawful_order.Events.{Placed, all_events}
use Rattle.order_cells.specs.lawful_order.Reads.{ReadRule}
use Rattle.read_write.specs.Accesses.{all_accesses}
use Rattle.read_write.specs.Reading.{conjunct_of, line_in, needs_of, read_formula, read_needs}
use Rattle.read_write.proofs.Exact.{IsAbout, read_from_takes, takes_from_read}
use Rattle.order_events.proofs.Lists.{in_filter_map, in_flat_map, of_filter_map}
use Rattle.read_write.proofs.Numbers.{access_in, access_of, line_is}

pub some_from : {X : Type 0} (o : Option X) → IsSome o → (x : X) × (o ≡ Some x)
some_from None is = absurd (false≢true is)
some_from (Some x) is = (x, refl)

pub mapped : {X Y : Type 0} (f : X → Y) (o : Option X) (y : Y) → option_map f o ≡ Some y → (x : X) × (o ≡ Some x) × (f x ≡ y)
mapped f None y is = absurd (none-some y is)
mapped f (Some x) y is = (x, refl, same_Some (f x) y is)

-- what one load needs exists if everything that the loads need does
pub needed : (code : Code) (symbolic : Symbolic) (nodes : List Node) → All (Contains nodes) (read_needs code symbolic nodes)
    → (b : Placed Access) (number : ℕ) → Contains (all_accesses symbolic) b → b.it.takes ≡ Some number
    → (n : Node) → Contains (needs_of code (all_accesses symbolic) nodes b number) n → Contains nodes n
needed code symbolic nodes needs b number i takes n j =
    let accesses = all_accesses symbolic in
    let each = λ (a : Placed Access). option_map_or (needs_of code accesses nodes a) a.it.takes [] in
    let own : Contains (each b) n = subst (λ o. Contains (option_map_or (needs_of code accesses nodes b) o []) n) (sym takes) j in
    All-contains (Contains nodes) (read_needs code symbolic nodes) n needs (in_flat_map each b n accesses i own)

-- the conjuncts are those of loads
module _ (code : Code) (paths : Paths) (symbolic : Symbolic) (nodes : List Node) where
  abbrev own : Placed Access → ℕ → Conjunct
  own = conjunct_of code (all_events paths) (all_accesses symbolic) nodes

  abbrev each : Placed Access → Option Conjunct
  each a = option_map (own a) a.it.takes

  pub record IsLoad (c : Conjunct) : Type 0 where
    pub load : Placed Access
    pub number : ℕ
    pub among : Contains (all_accesses symbolic) load
    pub takes : load.it.takes ≡ Some number
    pub is : own load number ≡ c

  pub load_from : (c : Conjunct) → Contains (read_formula code paths symbolic nodes) c → IsLoad c
  load_from c i =
      let o = of_filter_map each c (all_accesses symbolic) i in
      let m = mapped (own o.0) o.0.it.takes c o.2 in
      record { load = o.0; number = m.0; among = o.1; takes = m.1; is = m.2 }

  pub conjunct_in : (a : Placed Access) (number : ℕ) → Contains (all_accesses symbolic) a → a.it.takes ≡ Some number
      → Contains (read_formula code paths symbolic nodes) (own a number)
  conjunct_in a number i takes = in_filter_map each a (own a number) (all_accesses symbolic) i (ap (option_map (own a)) takes)

  module _ (w : World) (about : IsAbout paths symbolic nodes w) (needs : All (Contains nodes) (read_needs code symbolic nodes)) (t line : ℕ) where
    pub rule_from_formula : HoldsIn nodes w (read_formula code paths symbolic nodes) (Read t line) → ReadRule code paths symbolic nodes w t line
    rule_from_formula holds = record {
      loads = λ a x has loads event step at.
          let load : Placed Access = record { thread = t; it = a } in
          let number = some_from a.takes loads in
          let i = access_in symbolic t a has in
          let group : Read t (line_in (all_events paths) t a.step) ≡ Read t line =
          ap (Read t) (ap (line_in (all_events paths) t) (sym step) ∙ line_is paths about.whole t x event ∙ at) in
          takes_from_read code paths symbolic nodes w about t a number.0 has number.1
          (needed code symbolic nodes needs load number.0 i number.1)
          (holds (own load number.0) (conjunct_in load number.0 i number.1) group);
    }

    pub formula_from_rule : ReadRule code paths symbolic nodes w t line → HoldsIn nodes w (read_formula code paths symbolic nodes) (Read t line)
    formula_from_rule rule c i group =
        let l = load_from c i in
        let u = l.load.thread in
        let a = l.load.it in
        let has = access_of symbolic l.load l.among in
        let same : Read u (line_in (all_events paths) u a.step) ≡ Read t line = ap (λ (d : Conjunct). d.group) l.is ∙ group in
        let thread : u ≡ t = cc in
        let at : line_in (all_events paths) u a.step ≡ line = cc in
        let rule : ReadRule code paths symbolic nodes w u line = subst (λ n. ReadRule code paths symbolic nodes w n line) (sym thread) rule in
        let e = about.executed.accesses u a has in
        let at : e.0.line ≡ line = sym (line_is paths about.whole u e.0 e.1) ∙ ap (line_in (all_events paths) u) e.2 ∙ at in
        let takes = rule.loads a e.0 has (ap is_some l.takes) e.1 e.2 at in
        subst (λ (d : Conjunct). body_at nodes w d.body ≡ true) l.is
        (read_from_takes code paths symbolic nodes w about u a l.number has l.takes (needed code symbolic nodes needs l.load l.number l.among l.takes) takes)
