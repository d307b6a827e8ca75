-- The names of deeds, and the stores that may drain.
use Rattle.std.specs.Prelude.{◌≡◌, ◌<◌, ◌==◌, ℕ, ℤ, Bool, true, false, not, ◌&&◌, nat_lt, Option, Some, None, if◌then◌else◌, List, ◌∷◌, ◌++◌}
use Rattle.std.specs.List.{list_any}
use Rattle.store_buffers.specs.tc_base.Names.{Name}
use Rattle.store_buffers.specs.tc_base.Buffers.{BufferOps}
use Rattle.store_buffers.specs.tc_base.declared.request.Request.TheVariants.{Write, Bar}
use Rattle.store_buffers.specs.Pending.{Binding}
use Rattle.run_history.specs.History.{Deed, Did, Drained, same, has_drained}

-- a deed's name: its thread, a step number, and whether the deed is the drain of that step's store
pub record DeedName : Type 0 where
  pub thread : Name
  pub number : ℕ
  pub is_drain : Bool

abbrev pub name_of : Deed → DeedName
name_of (Did n k r took other) = record { thread = n; number = k; is_drain = false }
name_of (Drained n k c v) = record { thread = n; number = k; is_drain = true }

-- no two deeds have the same name
abbrev pub AllApart : List Deed → Type 0
AllApart h =
    (older newer between : List Deed) (d e : Deed) → h ≡ (older ++ d ∷ between) ++ e ∷ newer
    → name_of d ≡ name_of e → ⊥

-- step number k of the thread is in the history, and it is a write of v to cell c
pub record IsIssuedIn (h : List Deed) (n : Name) (k c : ℕ) (v : ℤ) : Type 0 where
  pub before : List Deed
  pub after : List Deed
  pub took : ℤ
  pub other : Option Name
  pub issued : h ≡ before ++ Did n k (Write c v) took other ∷ after

abbrev pub DrainsAreOfStores : List Deed → Type 0
DrainsAreOfStores h =
    (older newer : List Deed) (n : Name) (k c : ℕ) (v : ℤ) → h ≡ older ++ Drained n k c v ∷ newer
    → IsIssuedIn older n k c v

-- whether a deed is a bar of the thread between its steps j and k
abbrev pub is_bar_between : Name → ℕ → ℕ → Deed → Bool
is_bar_between n j k (Did q i Bar took other) = same n q && nat_lt j i && nat_lt i k
is_bar_between n j k _ = false

abbrev pub has_bar_between : List Deed → Name → ℕ → ℕ → Bool
has_bar_between h n j k = list_any (is_bar_between n j k) h

-- a store may drain next: it is pending, and no older pending store of its thread must drain first
pub record MayDrainNext (bound : Binding) (h : List Deed) (n : Name) (k c : ℕ)
    (v : ℤ) : Type 0 where
  pub issued : IsIssuedIn h n k c v
  pub pending : has_drained h n k ≡ false
  pub is_free : (j d : ℕ) (w : ℤ) → IsIssuedIn h n j d w → has_drained h n j ≡ false → j < k
      → bound (d == c) (has_bar_between h n j k) ≡ false

-- the value that a deed stores to a cell, if it is a pending store of the thread
abbrev pub own_value : Bool → List Deed → Name → ℕ → Deed → Option ℤ
own_value buffered h n c (Did q k (Write d v) took other) =
    if (buffered && same n q) && ((d == c) && not (has_drained h n k)) then Some v else None
own_value buffered h n c _ = None

-- the buffer is empty, forwards nothing, and lets nothing drain
pub record HoldsNothing {B : Type 0} (ops : BufferOps B) (b : B) : Type 0 where
  pub empty : ops.is_empty b ≡ true
  pub forwards : (c : ℕ) → ops.forward b c ≡ None
  pub drains : (form : Option ℕ) → ops.may_drain b form ≡ false
