-- The results of the loops over events and sleeps, with one more element.
use Rattle.std.proofs.Common.{◌≡◌, ◌∙◌, ℕ, ◌+◌, ◌<◌, List, [], ◌∷◌, ◌++◌, Option, length, map, take, get_or, sym, ap}
use Rattle.std.specs.List.{enumerate_from, filter_map, cons_option}
use Rattle.std.proofs.lemmas.List.{get_or_default, map_push}
use Rattle.std.proofs.lemmas.List.Elements.{filter_map-append}
use Rattle.path_walk.specs.declared.event.Event.{Event}
use Rattle.path_walk.specs.declared.event.Sleep.{Sleep}
use Rattle.order_events.specs.lawful_order.Events.{Placed}
use Rattle.order_events.proofs.Loops.{enumerated_more}
use Rattle.condition_order.specs.declared.wait.Ender.{Ender}
use Rattle.condition_order.specs.declared.wait.Wait.{Wait}
use Rattle.condition_order.specs.Conditions.{ender_by, enders, wait_of, waits}

pub enders_more : (c : ℕ) (xs : List (Placed Event)) (i : ℕ) (d : Placed Event) (o : Option Ender) → i < length xs → o ≡ ender_by c (i, get_or xs i d)
    → enders (take (i + 1) xs) c ≡ enders (take i xs) c ++ cons_option o []
enders_more c xs i d o within by =
    let x : Placed Event = get_or xs i d in
    ap (filter_map (ender_by c)) (enumerated_more xs i x within (get_or_default xs i d x within))
    ∙ filter_map-append (ender_by c) (enumerate_from 0 (take i xs)) ((i, x) ∷ []) ∙ ap (λ e. enders (take i xs) c ++ cons_option e []) (sym by)

pub waits_more : (events : List (Placed Event)) (xs : List (Placed Sleep)) (i : ℕ) (d : Placed Sleep) (wait : Wait) → i < length xs
    → wait ≡ wait_of events (i, get_or xs i d) → waits events (take (i + 1) xs) ≡ waits events (take i xs) ++ wait ∷ []
waits_more events xs i d wait within of =
    let x : Placed Sleep = get_or xs i d in
    ap (map (wait_of events)) (enumerated_more xs i x within (get_or_default xs i d x within))
    ∙ map_push (wait_of events) (enumerate_from 0 (take i xs)) (i, x) ∙ ap (λ w. waits events (take i xs) ++ w ∷ []) (sym of)
