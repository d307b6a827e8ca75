-- Pushed conjuncts and made nodes, part after part.
use Rattle.std.proofs.Common.{◌≡◌, ◌∙◌, ℕ, ◌+◌, ◌<◌, ◌≤◌, List, [], ◌∷◌, ◌++◌, length, get_or, take, drop, refl, ap, sym, arith, append_assoc, append-nil}
use Rattle.std.specs.Prelude.{fold, Result, Ok, Err, OnOk, IfOk}
use Rattle.std.specs.List.{flat_map}
use Rattle.std.proofs.lemmas.List.{drop_all, drop_more, take_more}
use Rattle.std.proofs.lemmas.List.Concat.{flat_map-append}
use Rattle.std.proofs.lemmas.List.Sums.{fold-append}
use Rattle.sym_terms.specs.Terms.{with_node}
use Rattle.sym_terms.specs.declared.node.Node.{Node}
use Rattle.order_events.proofs.Loops as loops
use Rattle.order_events.specs.Parts.{of_each}
use Rattle.memory_order.specs.Twos.{Two, twos, twos_with}

-- two pushed parts are one
pub pushed_more : {X : Type 0} (a b c first second : List X) → b ≡ a ++ first → c ≡ b ++ second → c ≡ a ++ (first ++ second)
pushed_more a b c first second one two = two ∙ ap (λ xs. xs ++ second) one ∙ append_assoc a first second

pub added_more : (a b c first second : List Node) → b ≡ fold with_node a first → c ≡ fold with_node b second → c ≡ fold with_node a (first ++ second)
added_more a b c first second one two = two ∙ ap (λ ns. fold with_node ns second) one ∙ sym (fold-append with_node a first second)

-- one more part of a whole, and the rest
pub pushed_rest : {X : Type 0} (a b part rest before whole : List X) → b ≡ a ++ part → before ≡ part ++ rest → a ++ before ≡ whole → b ++ rest ≡ whole
pushed_rest a b part rest before whole more split all =
    ap (λ xs. xs ++ rest) more ∙ append_assoc a part rest ∙ ap (λ xs. a ++ xs) (sym split) ∙ all

pub added_rest : (a b whole part rest before : List Node) → b ≡ fold with_node a part → before ≡ part ++ rest → fold with_node a before ≡ whole
    → fold with_node b rest ≡ whole
added_rest a b whole part rest before more split all =
    ap (λ ns. fold with_node ns rest) more ∙ sym (fold-append with_node a part rest) ∙ ap (fold with_node a) (sym split) ∙ all

-- the pairs of an element with those from a place on: the one at the place, then the others
pub twos_more : {X Y : Type 0} (f : Two X → List Y) (x : X) (xs : List X) (k : ℕ) (d : X) → k < length xs
    → flat_map f (twos_with x (take k xs) (drop k xs))
    ≡ f (record { first = x; between = take k xs; second = get_or xs k d }) ++ flat_map f (twos_with x (take (k + 1) xs) (drop (k + 1) xs))
twos_more f x xs k d within =
    let rest = drop (k + 1) xs in
    ap (λ zs. flat_map f (twos_with x (take k xs) zs)) (drop_more xs k d within)
    ∙ ap (λ b. f (record { first = x; between = take k xs; second = get_or xs k d }) ++ flat_map f (twos_with x b rest)) (sym (take_more xs k d within))

-- no pairs are left at the end
pub twos_end : {X Y : Type 0} (f : Two X → List Y) (x : X) (xs : List X) (k : ℕ) → length xs ≤ k → flat_map f (twos_with x (take k xs) (drop k xs)) ≡ []
twos_end f x xs k end = ap (λ zs. flat_map f (twos_with x (take k xs) zs)) (drop_all k xs end)

-- the pairs of a list: those of its first element, then those among the others
pub twos_first : {X Y : Type 0} (f : Two X → List Y) (xs after : List X) (d : X) → 1 ≤ length xs → after ≡ drop 1 xs
    → flat_map f (twos xs) ≡ flat_map f (twos_with (get_or xs 0 d) [] after) ++ flat_map f (twos after)
twos_first f [] after d some is = absurd (omega (arith, some))
twos_first f (x ∷ xs) after d some is =
    flat_map-append f (twos_with x [] xs) (twos xs) ∙ sym (ap (λ ys. flat_map f (twos_with x [] ys) ++ flat_map f (twos ys)) is)

-- the results of each element with its place, with one more element
pub each_more : {A X : Type 0} (f : ℕ → A → List X) (xs : List A) (i : ℕ) (x : A) → i < length xs → get_or xs i x ≡ x
    → of_each f (take (i + 1) xs) ≡ of_each f (take i xs) ++ f i x
each_more f xs i x within is =
    let done = of_each f (take i xs) in
    sym (loops.each_more xs i x within (sym is) [] done (done ++ f i x) f refl refl)

-- two clauses of a result give both facts
pub both_ok : {T E : Type 0} (r : Result T E) (P : Type 0) (Q R : T → Type 0) → OnOk r P → IfOk r Q → (P → (x : T) → Q x → R x) → IfOk r R
both_ok (Ok x) P Q R one two so = so one x two
both_ok (Err e) P Q R one two so = tt
