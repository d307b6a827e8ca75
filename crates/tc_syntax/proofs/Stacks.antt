-- The composition of the readers' results.
use Rattle.std.proofs.Common.{◌≡◌, List, ◌++◌, Some, ap, ◌∙◌, append_assoc}
use Rattle.tc_tree.specs.declared.word.Word.{Word}
use Rattle.tc_syntax.specs.declared.reader.Stop.{Stop}
use Rattle.tc_syntax.specs.declared.reader.Stop.TheVariants.{Memory, Left}
use Rattle.tc_syntax.specs.helpers.Reading.{Expected, fault}
use Rattle.tc_syntax.specs.helpers.Read.{Stops, Moves}

-- if words after some that fit stop a reader, all of them do
pub along : (ds fs gs : List Expected) (ws rest : List Word) (stop : Stop) → Moves ds ws rest → Stops fs rest stop → Stops (ds ++ (fs ++ gs)) ws stop
along ds fs gs ws rest Memory m h = tt
along ds fs gs ws rest (Left n) m h = λ s.
    ap (λ (z : List Expected). fault (Some z) ws) (append_assoc ds (fs ++ gs) s) ∙ m ((fs ++ gs) ++ s)
    ∙ ap (λ (z : List Expected). fault (Some z) rest) (append_assoc fs gs s) ∙ h (gs ++ s)

-- words that stop a reader also stop it with more expected afterwards
pub at_once : (fs gs : List Expected) (ws : List Word) (stop : Stop) → Stops fs ws stop → Stops (fs ++ gs) ws stop
at_once fs gs ws Memory h = tt
at_once fs gs ws (Left n) h = λ s. ap (λ (z : List Expected). fault (Some z) ws) (append_assoc fs gs s) ∙ h (gs ++ s)

-- words stop a reader if they have the fault of words that stop it
pub goes : (es fs : List Expected) (ws rest : List Word) (stop : Stop)
    → ((s : List Expected) → fault (Some (es ++ s)) ws ≡ fault (Some (fs ++ s)) rest) → Stops fs rest stop → Stops es ws stop
goes es fs ws rest Memory m h = tt
goes es fs ws rest (Left n) m h = λ s. m s ∙ h s
