-- The clauses over lists are those of a mutex whose lists these are.
use Rattle.std.proofs.Common.{◌≡◌, ℕ, List, [], ℤ, Option, Some, None, true, cond, refl, ap, ◌∙◌, get_or}
use Rattle.std.specs.Prelude.{fold, if◌then◌else◌}
use Rattle.std.specs.List.{enumerate_from, flat_map}
use Rattle.std.specs.Option.{option_map_or}
use Rattle.tc_code.specs.Code.{Code}
use Rattle.path_walk.specs.Paths.{Paths}
use Rattle.path_walk.specs.declared.event.Region.{Region}
use Rattle.sym_terms.specs.declared.node.Node.{Node}
use Rattle.sym_exec.specs.Executed.{Symbolic}
use Rattle.sym_exec.specs.declared.symbolic.Access.{Access}
use Rattle.sym_exec.specs.tc_code.declared.cell.Cell.{Cell}
use Rattle.sym_exec.specs.tc_code.declared.cell.Cell.TheVariants.{Fixed, Element}
use Rattle.order_events.specs.order_formula.declared.formula.Conjunct.{Conjunct}
use Rattle.order_events.specs.lawful_order.Events.{Placed}
use Rattle.cnf_core.specs.Clauses.{Formula}
use Rattle.bit_gates.specs.Folded.{Made, constant}
use Rattle.bit_order.specs.Layouts.{Layout, load_word}
use Rattle.bit_blast.specs.Drafts.{Draft}
use Rattle.bit_blast.specs.Reads.{value_clauses, with_clauses}
use Rattle.read_write.specs.Accesses.{all_accesses}
use Rattle.mutex_regions.specs.Regions.{regions_of}
use Rattle.mutex_regions.specs.Variables.{guarded, spots_of}
use Rattle.mutex_regions.specs.declared.variables.Spot.{Spot}
use Rattle.mutex_states.specs.States.{is_outside, names_spot, with_last_load, with_last_loads}
use Rattle.mutex_clauses.specs.last_loads.helpers.Listed as listed
use Rattle.mutex_clauses.proofs.last_loads.Folds.{fold_filtered}

module _ (paths : Paths) (nodes : List Node) (formula : List Conjunct) (ordered : ℤ) (state : List (List ℤ)) where
  abbrev all_loads : Layout → List ℤ → List (Placed Region) → List Spot → List (Placed Access) → Formula → Formula
  all_loads y roots regions spots accesses f = fold (listed.with_outside paths y formula roots nodes ordered regions spots state) f accesses

  module _ (code : Code) (symbolic : Symbolic) (m : ℕ) (d : Draft) where
    abbrev regions_in : List (Placed Region)
    regions_in = regions_of paths m

    abbrev spots_in : List Spot
    spots_in = spots_of (guarded paths symbolic m)

    -- the clauses of a load, by its cell
    same_clauses : (cell : Cell ℕ) (word : List ℤ) (after : ℤ)
        → listed.spots_clauses nodes spots_in state cell word after
        ≡ flat_map
        (λ x. if names_spot code paths symbolic nodes formula m x.1 cell then value_clauses after (constant true) word (get_or state x.0 []) else [])
        (enumerate_from 0 spots_in)
    same_clauses (Fixed c) word after = refl
    same_clauses (Element f n i) word after = refl

    same_load : (a : Placed Access) (f : Formula) (load : ℕ)
        → listed.with_load paths d.layout formula d.roots nodes ordered regions_in spots_in state a f load
        ≡ with_last_load code paths symbolic nodes formula m d ordered state a f load
    same_load a f load =
        let after : Made = listed.after_made paths d.layout formula d.roots ordered regions_in f a in
        ap (with_clauses after.formula) (same_clauses a.it.cell (load_word d.layout load) after.literal)

    same_outside : (f : Formula) (a : Placed Access)
        → listed.with_outside paths d.layout formula d.roots nodes ordered regions_in spots_in state f a
        ≡ cond (is_outside code paths symbolic nodes formula m a)
        (option_map_or (with_last_load code paths symbolic nodes formula m d ordered state a f) a.it.takes f) f
    same_outside f a = ap (λ k. cond (is_outside code paths symbolic nodes formula m a) k f) (by a.it.takes)
      where
        by : (o : Option ℕ) → option_map_or (listed.with_load paths d.layout formula d.roots nodes ordered regions_in spots_in state a f) o f
            ≡ option_map_or (with_last_load code paths symbolic nodes formula m d ordered state a f) o f
        by None = refl
        by (Some load) = same_load a f load

    pub same_loads : (y : Layout) (roots : List ℤ) (regions : List (Placed Region)) (spots : List Spot) (accesses : List (Placed Access)) (f : Formula)
        → regions ≡ regions_in → spots ≡ spots_in → accesses ≡ all_accesses symbolic → y ≡ d.layout → roots ≡ d.roots
        → all_loads y roots regions spots accesses f ≡ with_last_loads code paths symbolic nodes formula m d ordered state f
    same_loads y roots regions spots accesses f r s a l o =
        ap (λ k. all_loads k roots regions spots accesses f) l ∙ ap (λ k. all_loads d.layout k regions spots accesses f) o
        ∙ ap (λ k. all_loads d.layout d.roots k spots accesses f) r ∙ ap (λ k. all_loads d.layout d.roots regions_in k accesses f) s
        ∙ ap (λ k. all_loads d.layout d.roots regions_in spots_in k f) a
        ∙ fold_filtered (is_outside code paths symbolic nodes formula m)
        (listed.with_outside paths d.layout formula d.roots nodes ordered regions_in spots_in state)
        (λ (g : Formula) (b : Placed Access). option_map_or (with_last_load code paths symbolic nodes formula m d ordered state b g) b.it.takes g)
        (all_accesses symbolic) f same_outside
