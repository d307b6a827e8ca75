-- The names of a log's threads rise.
use Rattle.std.proofs.Common.{◌≡◌, ◌∙◌, ◌<◌, ℕ, zero, suc, Bool, true, false, cond, List, [], ◌∷◌, ◌++◌, drop}
use Rattle.std.proofs.Common.{Option, Some, None, refl, ap, subst, arith, bytes_eq}
use Rattle.std.specs.Prelude.{slice_get}
use Rattle.std.specs.Ordering.{is_lt, ordering_reverse}
use Rattle.std.specs.declared.cmp.Ordering.{Ordering}
use Rattle.std.specs.declared.cmp.Ordering.TheVariants.{Less, Equal, Greater}
use Rattle.std.proofs.lemmas.Bool.{and_parts}
use Rattle.std.proofs.lemmas.Cmp.{nat_list_cmp_total}
use Rattle.std.proofs.lemmas.Option.{none-some, same_Some}
use Rattle.tc_base.specs.Names.{Name, by_name}
use Rattle.tc_base.specs.Paths.{ThreadPath, path_under}
use Rattle.tc_base.proofs.Names.{same_name, between, turned, less_true, same_refl, apart_less, apart_above}
use Rattle.run_log.specs.Logs.{is_above, rises_from}

-- the first name is above the last one, and the others rise from it
pub rising : (last : Option Name) (t : ThreadPath) (ts : List ThreadPath) → rises_from last (t ∷ ts) ≡ true
    → (is_above last t.name ≡ true) × (rises_from (Some t.name) ts ≡ true)
rising last t ts h = and_parts (is_above last t.name) (rises_from (Some t.name) ts) h

above : (last : Name) (t : ThreadPath) (ts : List ThreadPath) → rises_from (Some last) (t ∷ ts) ≡ true → by_name last t.name ≡ Less
above last t ts h = less_true (by_name last t.name) (rising (Some last) t ts h).0

-- the names after some of them rise too
pub rises_behind : (last : Option Name) (i : ℕ) (ts : List ThreadPath) → rises_from last ts ≡ true → rises_from None (drop i ts) ≡ true
rises_behind last zero [] h = refl
rises_behind last zero (t ∷ ts) h = (rising last t ts h).1
rises_behind last (suc i) [] h = refl
rises_behind last (suc i) (t ∷ ts) h = rises_behind (Some t.name) i ts (rising last t ts h).1

pub not_under : (m : Name) (t : ThreadPath) (ts : List ThreadPath) → bytes_eq m t.name ≡ false → path_under m (t ∷ ts) ≡ path_under m ts
not_under m t ts e = ap (λ (b : Bool). cond b (Some t.path) (path_under m ts)) e

pub under_first : (t : ThreadPath) (ts : List ThreadPath) → path_under t.name (t ∷ ts) ≡ Some t.path
under_first t ts = ap (λ (b : Bool). cond b (Some t.path) (path_under t.name ts)) (same_refl t.name)

-- a name that isn't above the last one isn't among names that rise from it
pub none_under : (last m : Name) (ts : List ThreadPath) → rises_from (Some last) ts ≡ true → is_lt (by_name last m) ≡ false → path_under m ts ≡ None
none_under last m [] h e = refl
none_under last m (t ∷ ts) h e =
    let less = before_next (by_name last m) refl (above last t ts h) e in
    not_under m t ts (apart_less m t.name less) ∙ none_under t.name m ts (rising (Some last) t ts h).1 (not_above m t.name less)
  where
    not_above : (m n : Name) → by_name m n ≡ Less → is_lt (by_name n m) ≡ false
    not_above m n e = ap is_lt (nat_list_cmp_total.antisymm n m ∙ ap ordering_reverse e)

    before_next : (o : Ordering) → by_name last m ≡ o → by_name last t.name ≡ Less → is_lt o ≡ false → by_name m t.name ≡ Less
    before_next Less is less h = absurd cc
    before_next Equal is less h = subst (λ k. by_name k t.name ≡ Less) (same_name last m is) less
    before_next Greater is less h = between m last t.name (turned last m is) less

-- a name below the last one isn't among them
pub none_below : (last m : Name) (ts : List ThreadPath) → rises_from (Some last) ts ≡ true → by_name m last ≡ Less → path_under m ts ≡ None
none_below last m ts h e = none_under last m ts h (ap is_lt (nat_list_cmp_total.antisymm last m ∙ ap ordering_reverse e))

module _ (t : ThreadPath) (newer : List ThreadPath) where
  -- a name is above the one from which those before it rise
  above_last : (last : Name) (older : List ThreadPath) → rises_from (Some last) (older ++ t ∷ newer) ≡ true → by_name last t.name ≡ Less
  above_last last [] h = above last t newer h
  above_last last (o ∷ older) h =
      between last o.name t.name (above last o (older ++ t ∷ newer) h)
      (above_last o.name older (rising (Some last) o (older ++ t ∷ newer) h).1)

  -- a thread of a log is found under its name
  pub own_path : (last : Option Name) (older : List ThreadPath) → rises_from last (older ++ t ∷ newer) ≡ true
      → path_under t.name (older ++ t ∷ newer) ≡ Some t.path
  own_path last [] h = under_first t newer
  own_path last (o ∷ older) h =
      let others = (rising last o (older ++ t ∷ newer) h).1 in
      not_under t.name o (older ++ t ∷ newer) (apart_above t.name o.name (above_last o.name older others)) ∙ own_path (Some o.name) older others

  -- a lesser name is found before it
  pub lesser_is_older : (m : Name) (last : Option Name) (older : List ThreadPath) → rises_from last (older ++ t ∷ newer) ≡ true
      → by_name m t.name ≡ Less → path_under m (older ++ t ∷ newer) ≡ path_under m older
  lesser_is_older m last [] h less =
      not_under m t newer (apart_less m t.name less) ∙ none_below t.name m newer (rising last t newer h).1 less
  lesser_is_older m last (o ∷ older) h less =
      ap (λ r. cond (bytes_eq m o.name) (Some o.path) r) (lesser_is_older m (Some o.name) older (rising last o (older ++ t ∷ newer) h).1 less)

-- the name at a place is above the last one
above_at : (last : Name) (ts : List ThreadPath) (k : ℕ) (b : ThreadPath) → rises_from (Some last) ts ≡ true → slice_get ts k ≡ Some b
    → by_name last b.name ≡ Less
above_at last [] k b h at = absurd (none-some b at)
above_at last (t ∷ ts) zero b h at = subst (λ x. by_name last x.name ≡ Less) (same_Some t b at) (above last t ts h)
above_at last (t ∷ ts) (suc k) b h at =
    between last t.name b.name (above last t ts h) (above_at t.name ts k b (rising (Some last) t ts h).1 at)

-- the later of two places has the greater name
pub rise : (last : Option Name) (ts : List ThreadPath) (j k : ℕ) (a b : ThreadPath) → rises_from last ts ≡ true → j < k → slice_get ts j ≡ Some a
    → slice_get ts k ≡ Some b → by_name a.name b.name ≡ Less
rise last [] j k a b h lt at bt = absurd (none-some a at)
rise last (t ∷ ts) j zero a b h lt at bt = absurd (omega (arith, lt))
rise last (t ∷ ts) zero (suc k) a b h lt at bt =
    subst (λ x. by_name x.name b.name ≡ Less) (same_Some t a at) (above_at t.name ts k b (rising last t ts h).1 bt)
rise last (t ∷ ts) (suc j) (suc k) a b h lt at bt = rise (Some t.name) ts j k a b (rising last t ts h).1 (omega (arith, lt)) at bt
