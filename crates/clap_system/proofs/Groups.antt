-- Four formulas together, no two of which share a group.
use Rattle.std.proofs.Common.{◌≡◌, ◌∙◌, Bool, true, false, List, ◌++◌, sym, ap}
use Rattle.std.specs.List.{Contains}
use Rattle.std.proofs.lemmas.Bool.{true≢false}
use Rattle.sym_terms.specs.declared.node.Node.{Node}
use Rattle.order_formula.specs.declared.formula.Conjunct.{Conjunct}
use Rattle.order_formula.specs.declared.group.Group.{Group}
use Rattle.order_formula.specs.declared.group.Group.TheVariants.{Own, Read, Test}
use Rattle.order_formula.specs.Groups.{IsExactly}
use Rattle.order_formula.specs.Worlds.{World}
use Rattle.sync_order.proofs.Groups.{HasNone, exactly_before, exactly_behind, none_in_both}
use Rattle.sync_order.specs.Sync.{is_sync}

abbrev pub is_own : Group → Bool
is_own (Own t) = true
is_own _ = false

abbrev pub is_read : Group → Bool
is_read (Read t line) = true
is_read _ = false

abbrev pub is_test : Group → Bool
is_test (Test t line) = true
is_test _ = false

-- the group of each conjunct passes
abbrev pub HaveGroups : (Group → Bool) → List Conjunct → Type 0
HaveGroups is formula = (c : Conjunct) → Contains formula c → is c.group ≡ true

none_of : (is : Group → Bool) (formula : List Conjunct) (g : Group) → HaveGroups is formula → is g ≡ false → HasNone formula g
none_of is formula g have other z there of = absurd (true≢false (sym (have z there) ∙ ap is of ∙ other))

pub record Apart (owns syncs reads tests : List Conjunct) : Type 0 where
  pub own : HaveGroups is_own owns
  pub sync : HaveGroups is_sync syncs
  pub read : HaveGroups is_read reads
  pub test : HaveGroups is_test tests

module _ (nodes : List Node) (w : World) (own sync read test : List Conjunct) (apart : Apart own sync read test) (g : Group) (Rule : Type 0) where
  abbrev two : List Conjunct
  two = own ++ sync

  abbrev three : List Conjunct
  three = two ++ read

  no_own : is_own g ≡ false → HasNone own g
  no_own = none_of is_own own g apart.own

  no_sync : is_sync g ≡ false → HasNone sync g
  no_sync = none_of is_sync sync g apart.sync

  no_read : is_read g ≡ false → HasNone read g
  no_read = none_of is_read read g apart.read

  no_test : is_test g ≡ false → HasNone test g
  no_test = none_of is_test test g apart.test

  pub own_exact : IsExactly nodes w own g Rule → is_sync g ≡ false → is_read g ≡ false → is_test g ≡ false → IsExactly nodes w (three ++ test) g Rule
  own_exact exact sync_not read_not test_not =
      exactly_before nodes w g Rule three test
      (exactly_before nodes w g Rule two read (exactly_before nodes w g Rule own sync exact (no_sync sync_not)) (no_read read_not))
      (no_test test_not)

  pub sync_exact : IsExactly nodes w sync g Rule → is_own g ≡ false → is_read g ≡ false → is_test g ≡ false → IsExactly nodes w (three ++ test) g Rule
  sync_exact exact own_not read_not test_not =
      exactly_before nodes w g Rule three test
      (exactly_before nodes w g Rule two read (exactly_behind nodes w g Rule own sync exact (no_own own_not)) (no_read read_not))
      (no_test test_not)

  pub read_exact : IsExactly nodes w read g Rule → is_own g ≡ false → is_sync g ≡ false → is_test g ≡ false → IsExactly nodes w (three ++ test) g Rule
  read_exact exact own_not sync_not test_not =
      exactly_before nodes w g Rule three test
      (exactly_behind nodes w g Rule two read exact (none_in_both g own sync (no_own own_not) (no_sync sync_not)))
      (no_test test_not)

  pub test_exact : IsExactly nodes w test g Rule → is_own g ≡ false → is_sync g ≡ false → is_read g ≡ false → IsExactly nodes w (three ++ test) g Rule
  test_exact exact own_not sync_not read_not =
      exactly_behind nodes w g Rule three test exact
      (none_in_both g two read (none_in_both g own sync (no_own own_not) (no_sync sync_not)) (no_read read_not))
