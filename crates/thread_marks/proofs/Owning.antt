-- What a thread owns, by its marks.
use Rattle.std.proofs.Common.{◌≡◌, ◌∙◌, ℕ, zero, suc, Bool, false, List, ◌∷◌, map, replicate, ap, refl, sym}
use Rattle.std.specs.Prelude.{slice_set}
use Rattle.std.proofs.lemmas.List.{map-set}
use Rattle.path_walk.specs.tc_base.declared.handle.Handle.{Handle}
use Rattle.path_walk.specs.tc_base.declared.handle.Handle.TheVariants.{Unset}
use Rattle.tc_code.specs.Code.{Code}
use Rattle.tc_code.specs.Step.{can_be_joined, handles_of}
use Rattle.path_walk.specs.Marks.{Marks, marks_at_start}
use Rattle.thread_marks.specs.Own.{Own, nothing_own, own_of}

none_joined : (n : ℕ) → map can_be_joined (replicate n Unset) ≡ replicate n false
none_joined zero = refl
none_joined (suc n) = ap (λ bs. false ∷ bs) (none_joined n)

-- a thread without marks owns nothing
pub none_marked : (code : Code) (f : ℕ) → nothing_own code f ≡ own_of (marks_at_start code f)
none_marked code f =
    ap (λ (joinable : List Bool). let new : Own = record { held = replicate code.mutexes false; joinable = joinable } in new)
    (sym (none_joined (handles_of code f)))

-- another state of a thread variable
pub changed : (o : Own) (t : Marks) (h : ℕ) (x : Handle) (b : Bool) → o ≡ own_of t → can_be_joined x ≡ b
    → (let new : Own = record o { joinable = slice_set o.joinable h b } in new) ≡ own_of (record t { handles = slice_set t.handles h x })
changed o t h x b is same =
    ap (λ (p : Own). let new : Own = record p { joinable = slice_set p.joinable h b } in new) is
    ∙ ap (λ (joinable : List Bool). let new : Own = record { held = t.held; joinable = joinable } in new)
    (ap (slice_set (map can_be_joined t.handles) h) (sym same) ∙ sym (map-set can_be_joined t.handles h x))
