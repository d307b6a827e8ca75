-- What is expected of an update: its target and its operands, one after the other.
use Rattle.std.proofs.Common.{◌≡◌, List, [], ◌∷◌, ◌++◌, length, Option, Some, refl, sym, ap, ap₂, subst, ◌∙◌, append_assoc, arith}
use Rattle.int_ops.specs.Updates.{operands_of}
use Rattle.int_ops.specs.declared.update.Update.{Update}
use Rattle.tc_lexer.specs.declared.token.Sign.TheVariants as sign
use Rattle.tc_tree.specs.declared.expression.Name.{Name}
use Rattle.tc_tree.specs.declared.statement.Target.{Target}
use Rattle.tc_tree.specs.declared.statement.Target.TheVariants as target
use Rattle.tc_tree.specs.declared.statement.UpdateKind.{UpdateKind}
use Rattle.tc_tree.specs.declared.statement.UpdateKind.TheVariants as kind
use Rattle.tc_tree.specs.declared.word.Word.{Word}
use Rattle.tc_tree.specs.declared.word.Word.TheVariants.{Name as AName, Sign as ASign, Update as AnUpdate}
use Rattle.tc_tree.specs.Grammar.{Expression, Modify, statement_then, index_then, others_then, target_by, kind_of, IsGroupedIndex, IsWell, AreGrouped}
use Rattle.tc_syntax.specs.helpers.Reading.{Expected, Just, AnyName, AfterAssign, an_index, operands, an_update, fault}
use Rattle.tc_syntax.specs.helpers.Read.{Moves, Stops, IsRead}
use Rattle.tc_syntax.specs.declared.reader.Stop.{Stop}
use Rattle.tc_syntax.proofs.Stacks.{along, at_once}

-- after `=`, an update has its own parts
pub update_goes : (k : UpdateKind) (t : Target) (s : List Expected) (ws : List Word) → fault (Some (AfterAssign ∷ s)) (AnUpdate k t ∷ ws)
    ≡ fault (Some (Just sign.OpenParen ∷ AnyName ∷ an_index t (operands k (Just sign.CloseParen ∷ Just sign.Semicolon ∷ s)))) ws
update_goes kind.Swap target.Cell s ws = refl
update_goes kind.Swap target.Element s ws = refl
update_goes kind.Cas target.Cell s ws = refl
update_goes kind.Cas target.Element s ws = refl
update_goes kind.Add target.Cell s ws = refl
update_goes kind.Add target.Element s ws = refl

-- ---- the parts, one after the other

abbrev pub closing : List Expected
closing = Just sign.CloseParen ∷ Just sign.Semicolon ∷ []

abbrev pub opening : List Expected
opening = Just sign.OpenParen ∷ AnyName ∷ []

pub in_parts : (k : UpdateKind) (t : Target) → opening ++ (an_index t [] ++ (operands k [] ++ closing)) ≡ an_update k t
in_parts kind.Swap target.Cell = refl
in_parts kind.Swap target.Element = refl
in_parts kind.Cas target.Cell = refl
in_parts kind.Cas target.Element = refl
in_parts kind.Add target.Cell = refl
in_parts kind.Add target.Element = refl

-- what moves past some parts and then past more moves past both
pub moves_on : (ds fs : List Expected) (ws mid rest : List Word) → Moves ds ws mid → Moves fs mid rest → Moves (ds ++ fs) ws rest
moves_on ds fs ws mid rest m n = λ s. ap (λ (z : List Expected). fault (Some z) ws) (append_assoc ds fs s) ∙ m (fs ++ s) ∙ n s

-- words that stop a reader of a part stop the reader of the update
pub stops_at_index : (k : UpdateKind) (t : Target) (ws after : List Word) (stop : Stop) → Moves opening ws after → Stops (an_index t []) after stop
    → Stops (an_update k t) ws stop
stops_at_index k t ws after stop m h =
    subst (λ (es : List Expected). Stops es ws stop) (in_parts k t) (along opening (an_index t []) (operands k [] ++ closing) ws after stop m h)

pub stops_at_operands : (k : UpdateKind) (t : Target) (ws mid after : List Word) (stop : Stop) → Moves opening ws mid → Moves (an_index t []) mid after
    → Stops (operands k []) after stop → Stops (an_update k t) ws stop
stops_at_operands k t ws mid after stop m n h =
    subst (λ (es : List Expected). Stops es ws stop) (append_assoc opening (an_index t []) (operands k [] ++ closing) ∙ in_parts k t)
    (along (opening ++ an_index t []) (operands k []) closing ws after stop (moves_on opening (an_index t []) ws mid after m n) h)

-- the whole is passed if its parts are
pub passes : (k : UpdateKind) (t : Target) (ws mid after end rest : List Word) → Moves opening ws mid → Moves (an_index t []) mid after
    → Moves (operands k []) after end → Moves closing end rest → Moves (an_update k t) ws rest
passes k t ws mid after end rest m n o p =
    subst (λ (es : List Expected). Moves es ws rest) (in_parts k t)
    (moves_on opening (an_index t [] ++ (operands k [] ++ closing)) ws mid rest m
    (moves_on (an_index t []) (operands k [] ++ closing) mid after rest n (moves_on (operands k []) closing after end rest o p)))

pub stops_at_end : (k : UpdateKind) (t : Target) (ws mid after end : List Word) (stop : Stop) → Moves opening ws mid → Moves (an_index t []) mid after
    → Moves (operands k []) after end → Stops closing end stop → Stops (an_update k t) ws stop
stops_at_end k t ws mid after end stop m n o h =
    let front = moves_on (opening ++ an_index t []) (operands k []) ws after end (moves_on opening (an_index t []) ws mid after m n) o in
    let ends : Stops (closing ++ []) end stop = at_once closing [] end stop h in
    subst (λ (es : List Expected). Stops es ws stop)
    (append_assoc (opening ++ an_index t []) (operands k []) closing ∙ append_assoc opening (an_index t []) (operands k [] ++ closing) ∙ in_parts k t)
    (along ((opening ++ an_index t []) ++ operands k []) closing [] ws end stop front h)

-- the update that was read
pub update_read : (r x : Name) (k : UpdateKind) (t : Target) (i : Option Expression) (u : Update Expression) (ws mid after end rest : List Word)
    → ws ≡ ASign sign.OpenParen ∷ AName x ∷ mid → Moves opening ws mid
    → IsRead index_then (λ o. IsGroupedIndex o × (target_by o ≡ t)) [] (an_index t []) mid i after
    → IsRead (λ v us. others_then (operands_of v) us) (λ v. AreGrouped (operands_of v) × (kind_of v ≡ k)) [] (operands k []) after u end
    → end ≡ ASign sign.CloseParen ∷ ASign sign.Semicolon ∷ rest → Moves closing end rest
    → IsRead statement_then IsWell (AName r ∷ ASign sign.Assign ∷ AnUpdate k t ∷ []) (an_update k t) ws (Modify r x i u) rest
update_read r x k t i u ws mid after end rest begins m a b ends p = record {
  spelled = ap (λ (us : List Word). AName r ∷ ASign sign.Assign ∷ AnUpdate k t ∷ us) (begins
      ∙ ap (λ (us : List Word). ASign sign.OpenParen ∷ AName x ∷ us) (a.spelled
      ∙ ap (λ (us : List Word). index_then i us) (b.spelled ∙ ap (λ (us : List Word). others_then (operands_of u) us) ends)))
      ∙ ap₂ (λ (k' : UpdateKind) (t' : Target). AName r ∷ ASign sign.Assign ∷ AnUpdate k' t' ∷ ASign sign.OpenParen ∷ AName x ∷ index_then i
      (others_then (operands_of u) (ASign sign.CloseParen ∷ ASign sign.Semicolon ∷ rest))) (sym b.good.1) (sym a.good.1);
  good = (a.good.0, b.good.0);
  moves = passes k t ws mid after end rest m a.moves b.moves p;
  shorter = omega (arith, a.shorter, b.shorter, ap length begins, ap length ends);
}
