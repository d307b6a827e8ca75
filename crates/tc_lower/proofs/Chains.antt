-- Bodies that are written part by part.
use Rattle.std.proofs.Common.{
  ◌≡◌,
  ℕ,
  zero,
  suc,
  ◌+◌,
  ◌-◌,
  ◌<◌,
  ◌≤◌,
  ◌^◌,
  Bool,
  true,
  false,
  List,
  [],
  ◌∷◌,
  ◌++◌,
  length,
  set,
  get_or,
  replicate,
  map,
  drop,
  Vec,
  Global,
  option_map,
  is_some,
  Option,
  Some,
  None,
  Result,
  Ok,
  Err,
  OnOk,
  refl,
  ap,
  sym,
  subst,
  ◌∙◌,
  append_assoc,
  arith,
  length-append,
}
use Rattle.std.proofs.Math.ListN.{drop_of_length-le}
use Rattle.std.proofs.Math.Seq.{set-append_seam}
use Rattle.std.proofs.lemmas.List.{append-nil, length-set, length-replicate, set-append_left}
use Rattle.tc_code.specs.tc_limits.declared.limits.TheConstants.{PROGRAM_BYTES}
use Rattle.tc_tree.specs.tc_lexer.declared.place.Place.{Place}
use Rattle.tc_code.specs.Expr.{Expr}
use Rattle.tc_code.specs.declared.instr.Instr.{Instr}
use Rattle.tc_code.specs.declared.instr.Instr.TheVariants.{Branch, Goto}
use Rattle.tc_tree.specs.declared.expression.Name.{Name}
use Rattle.tc_tree.specs.Grammar.{Otherwise, ElseIf}
use Rattle.tc_tree.specs.Seen.{SeenBlock, SeenBranch, statement_of, statements_of, branch_of, block_of, otherwise_of}
use Rattle.tc_tree.specs.declared.statement.Statement.{Statement as TreeStatement, If}
use Rattle.tc_tree.specs.declared.statement.Block.{Block}
use Rattle.tc_tree.specs.declared.statement.Branch.{Branch as TreeBranch}
use Rattle.tc_lower.specs.declared.statement.Body.{Body}
use Rattle.tc_lower.specs.declared.statement.Test.{Test}
use Rattle.tc_lower.specs.declared.things.Thing.{Thing}
use Rattle.tc_lower.specs.Statements.{Written, on_line, Lowered, lowered, all_lowered, lowered_otherwise, goes_on, passing, after_body, branched, looped}
use Rattle.tc_lower.specs.Values.{Evaluated, evaluated}
use Rattle.tc_tree.specs.helpers.Parts.{statements_seen}
use Rattle.tc_lower.specs.helpers.Bodies.{IsReady, IsWritten, IsBegun, Below, filled, open_branch, jump_place}
use Rattle.tc_lower.specs.helpers.Seen.{IsAdded}
use Rattle.tc_lower.proofs.Lists.{drop-next}
use Rattle.tc_tree.proofs.Views.{if_seen, branch_body, branch_place}

-- ---- jumps to the end

pub below_more : (n m : ℕ) (ks : List ℕ) → n ≤ m → Below n ks → Below m ks
below_more n m [] up b = tt
below_more n m (k ∷ ks) up b = (omega (arith, up, b.0), below_more n m ks up b.1)

pub below_last : (n : ℕ) (ks : List ℕ) (k : ℕ) → Below n ks → k < n → Below n (ks ++ k ∷ [])
below_last n [] k b h = (h, tt)
below_last n (j ∷ ks) k b h = (b.0, below_last n ks k b.1 h)

pub below_at : (n : ℕ) (ks : List ℕ) (at d : ℕ) → at < length ks → Below n ks → get_or ks at d < n
below_at n [] at d h b = absurd (omega (arith, h))
below_at n (k ∷ ks) zero d h b = b.0
below_at n (k ∷ ks) (suc at) d h b = below_at n ks at d (omega (arith, h)) b.1

pub length-filled : (end : ℕ) (ks : List ℕ) (is : List Instr) → length (filled end ks is) ≡ length is
length-filled end [] is = refl
length-filled end (k ∷ ks) is = length-filled end ks (set is k (Goto end)) ∙ length-set is k (Goto end)

filled-append : (end : ℕ) (ks : List ℕ) (is js : List Instr) → Below (length is) ks → filled end ks (is ++ js) ≡ filled end ks is ++ js
filled-append end [] is js b = refl
filled-append end (k ∷ ks) is js b =
    let same : length is ≡ length (set is k (Goto end)) = sym (length-set is k (Goto end)) in
    ap (filled end ks) (set-append_left is js k (Goto end) b.0)
    ∙ filled-append end ks (set is k (Goto end)) js (subst (λ n. Below n ks) same b.1)

filled-last : (end : ℕ) (ks : List ℕ) (k : ℕ) (is : List Instr) → filled end (ks ++ k ∷ []) is ≡ set (filled end ks is) k (Goto end)
filled-last end [] k is = refl
filled-last end (j ∷ ks) k is = filled-last end ks k (set is j (Goto end))

-- ---- the written part and the rest

pub record SoFar (start w : Body) (jumps : List ℕ) (all left : Lowered) : Type 0 where
  pub instrs : start.code.draft ++ all.instrs ≡ filled (length w.code.draft + length left.instrs) jumps w.code.draft ++ left.instrs
  pub lines : start.lines.items ++ all.lines ≡ w.lines.items ++ left.lines
  pub free : all.free ≡ left.free
  pub even : length w.lines.items ≡ length w.code.draft
  pub room : w.code.free ≤ length w.code.draft + PROGRAM_BYTES
  pub below : Below (length w.code.draft) jumps

-- one part and then others
abbrev pub joined : Lowered → Lowered → Lowered
joined first others = record { instrs = first.instrs ++ others.instrs; lines = first.lines ++ others.lines; free = others.free }

pub begin_so_far : (start : Body) (all : Lowered) → IsReady start all → SoFar start start [] all all
begin_so_far start all r = record { instrs = refl; lines = refl; free = refl; even = r.even; room = r.room; below = tt }

-- the rest fits
pub left_fits : (start w : Body) (jumps : List ℕ) (all left : Lowered) → SoFar start w jumps all left
    → length start.code.draft + length all.instrs < 2 ^ 18 → length w.code.draft + length left.instrs < 2 ^ 18
left_fits start w jumps all left o fits =
    let end = length w.code.draft + length left.instrs in
    omega (
      arith,
      fits,
      length-append start.code.draft all.instrs,
      ap length o.instrs,
      length-append (filled end jumps w.code.draft) left.instrs,
      length-filled end jumps w.code.draft,
    )

pub part_ready : (start w : Body) (jumps : List ℕ) (all first others : Lowered) → SoFar start w jumps all (joined first others)
    → length start.code.draft + length all.instrs < 2 ^ 18 → IsReady w first
part_ready start w jumps all first others o fits =
    let f = left_fits start w jumps all (joined first others) o fits in
    record { even = o.even; room = o.room; fits = omega (arith, f, length-append first.instrs others.instrs) }

-- a part was written
pub part_written : (start w new : Body) (jumps : List ℕ) (all first others : Lowered) → SoFar start w jumps all (joined first others)
    → IsWritten w new first → SoFar start new jumps all others
part_written start w new jumps all first others o h =
    let place : length new.code.draft ≡ length w.code.draft + length first.instrs = ap length h.instrs ∙ length-append w.code.draft first.instrs in
    let end : length w.code.draft + length (first.instrs ++ others.instrs) ≡ length new.code.draft + length others.instrs =
    omega (arith, place, length-append first.instrs others.instrs) in
    record {
      instrs =
          o.instrs ∙ sym (append_assoc (filled (length w.code.draft + length (first.instrs ++ others.instrs)) jumps w.code.draft) first.instrs others.instrs)
          ∙ ap (λ is. is ++ others.instrs) (sym (filled-append (length w.code.draft + length (first.instrs
          ++ others.instrs)) jumps w.code.draft first.instrs o.below))
          ∙ ap (λ is. filled (length w.code.draft + length (first.instrs ++ others.instrs)) jumps is ++ others.instrs) (sym h.instrs)
          ∙ ap (λ n. filled n jumps new.code.draft ++ others.instrs) end;
      lines = o.lines ∙ sym (append_assoc w.lines.items first.lines others.lines) ∙ ap (λ ls. ls ++ others.lines) (sym h.lines);
      free = o.free;
      even = h.even;
      room = h.room;
      below = below_more (length w.code.draft) (length new.code.draft) jumps (omega (arith, place)) o.below;
    }

-- a part was written that ends in room for a jump to the end
pub jump_left : (start w new : Body) (jumps : List ℕ) (all left others : Lowered) (before : List Instr) (lines : List ℕ)
    → SoFar start w jumps all left → left.instrs ≡ before ++ Goto (length w.code.draft + length left.instrs) ∷ [] ++ others.instrs
    → left.lines ≡ lines ++ others.lines → left.free ≡ others.free
    → new.code.draft ≡ w.code.draft ++ (before ++ Goto 0 ∷ []) → new.lines.items ≡ w.lines.items ++ lines
    → length new.lines.items ≡ length new.code.draft → new.code.free ≤ length new.code.draft + PROGRAM_BYTES
    → SoFar start new (jumps ++ (length w.code.draft + length before) ∷ []) all others
jump_left start w new jumps all left others before lines o instrs_are lines_are free_is draft new_lines even room =
    let end = length w.code.draft + length left.instrs in
    let at = length w.code.draft + length before in
    let old = filled end jumps w.code.draft in
    let size : length new.code.draft ≡ length w.code.draft + length before + 1 =
    omega (arith, ap length draft, length-append w.code.draft (before ++ Goto 0 ∷ []), length-append before (Goto 0 ∷ [])) in
    let same_end : end ≡ length new.code.draft + length others.instrs =
    omega (arith, size, ap length instrs_are, length-append (before ++ Goto end ∷ []) others.instrs, length-append before (Goto end ∷ [])) in
    let place : at ≡ length (old ++ before) = omega (arith, length-append old before, length-filled end jumps w.code.draft) in
    let put : filled end (jumps ++ at ∷ []) new.code.draft ≡ (old ++ before) ++ Goto end ∷ [] =
    ap (filled end (jumps ++ at ∷ [])) draft ∙ filled-last end jumps at (w.code.draft ++ (before ++ Goto 0 ∷ []))
    ∙ ap (λ is. set is at (Goto end)) (filled-append end jumps w.code.draft (before ++ Goto 0 ∷ []) o.below ∙ sym (append_assoc old before (Goto 0 ∷ [])))
    ∙ ap (λ n. set ((old ++ before) ++ Goto 0 ∷ []) n (Goto end)) place
    ∙ set-append_seam (old ++ before) (Goto 0) [] (Goto end) in
    record {
      instrs =
          o.instrs ∙ ap (λ is. old ++ is) instrs_are
          ∙ sym (append_assoc old (before ++ Goto end ∷ []) others.instrs)
          ∙ ap (λ is. is ++ others.instrs) (sym (append_assoc old before (Goto end ∷ [])))
          ∙ ap (λ is. is ++ others.instrs) (sym put)
          ∙ ap (λ n. filled n (jumps ++ at ∷ []) new.code.draft ++ others.instrs) same_end;
      lines = o.lines ∙ ap (λ ls. w.lines.items ++ ls) lines_are ∙ sym (append_assoc w.lines.items lines others.lines)
          ∙ ap (λ ls. ls ++ others.lines) (sym new_lines);
      free = o.free ∙ free_is;
      even = even;
      room = room;
      below = below_last (length new.code.draft) jumps at
          (below_more (length w.code.draft) (length new.code.draft) jumps (omega (arith, size)) o.below) (omega (arith, size));
    }

-- all was written, and the jumps to the end
pub all_written : (start w new : Body) (jumps : List ℕ) (all left : Lowered) → SoFar start w jumps all left → left.instrs ≡ [] → left.lines ≡ []
    → w.code.free ≡ left.free → new.code.draft ≡ filled (length w.code.draft) jumps w.code.draft → new.lines.items ≡ w.lines.items
    → new.code.free ≡ w.code.free → IsWritten start new all
all_written start w new jumps all left o no_instrs no_lines free_is draft lines free =
    let size : length w.code.draft + length left.instrs ≡ length w.code.draft = omega (arith, ap length no_instrs) in
    let same : length new.code.draft ≡ length w.code.draft = ap length draft ∙ length-filled (length w.code.draft) jumps w.code.draft in
    record {
      instrs =
          draft ∙ sym (append-nil (filled (length w.code.draft) jumps w.code.draft))
          ∙ ap (λ n. filled n jumps w.code.draft ++ []) (sym size)
          ∙ ap (λ is. filled (length w.code.draft + length left.instrs) jumps w.code.draft ++ is) (sym no_instrs) ∙ sym o.instrs;
      lines = lines ∙ sym (append-nil w.lines.items) ∙ ap (λ ls. w.lines.items ++ ls) (sym no_lines) ∙ sym o.lines;
      free = free ∙ free_is ∙ sym o.free;
      even = ap length lines ∙ o.even ∙ sym same;
      room = omega (arith, free, same, o.room);
    }

-- ---- a branch of a chain

branch_written : (start w new : Body) (jumps : List ℕ) (all : Lowered) (line : ℕ) (test : Evaluated) (body : Lowered) (more : Bool) (others : Lowered)
    → SoFar start w jumps all (branched line (length w.code.draft) test body more others)
    → IsWritten w new (open_branch line (length w.code.draft) test body more)
    → SoFar start new (jumps ++ jump_place more (length w.code.draft + length test.instrs + 1 + length body.instrs)) all others
branch_written start w new jumps all line test body false others o h =
    subst (λ js. SoFar start new js all others) (sym (append-nil jumps))
    (part_written start w new jumps all (open_branch line (length w.code.draft) test body false) others o h)
branch_written start w new jumps all line test body true others o h =
    let at = length w.code.draft in
    let next = after_body at test body true in
    let left = branched line at test body true others in
    let before = test.instrs ++ Branch test.value next ∷ [] ++ body.instrs in
    let lines = replicate (length test.instrs + 1) line ++ body.lines ++ replicate 1 line in
    let size : length before ≡ length test.instrs + 1 + length body.instrs =
    omega (arith, length-append (test.instrs ++ Branch test.value next ∷ []) body.instrs, length-append test.instrs (Branch test.value next ∷ [])) in
    let whole : length left.instrs ≡ length before + 1 + length others.instrs =
    omega (
      arith,
      length-append (before ++ Goto (next + length others.instrs) ∷ []) others.instrs,
      length-append before (Goto (next + length others.instrs) ∷ []),
    ) in
    let end : next + length others.instrs ≡ at + length left.instrs = omega (arith, size, whole) in
    let place : at + length before ≡ at + length test.instrs + 1 + length body.instrs = omega (arith, size) in
    subst (λ n. SoFar start new (jumps ++ n ∷ []) all others) place
    (jump_left start w new jumps all left others before lines o (ap (λ n. before ++ Goto n ∷ [] ++ others.instrs) end) refl refl
    (h.instrs ∙ ap (λ is. w.code.draft ++ is) refl) h.lines h.even h.room)

-- where it ends
open_length : (at : ℕ) (test : Evaluated) (body : Lowered) (more : Bool) (line : ℕ) (w new : Body)
    → IsWritten w new (open_branch line at test body more) → at ≡ length w.code.draft → length new.code.draft ≡ after_body at test body more
open_length at test body more line w new h e =
    let before = test.instrs ++ Branch test.value (after_body at test body more) ∷ [] in
    omega (
      arith,
      e,
      ap length h.instrs,
      length-append w.code.draft (before ++ body.instrs ++ passing more 0),
      length-append (before ++ body.instrs) (passing more 0),
      length-append before body.instrs,
      length-append test.instrs (Branch test.value (after_body at test body more) ∷ []),
    )

pub chain_next : (scope : Name → Option Thing) (start w new : Body) (jumps : List ℕ) (all : Lowered) (b : SeenBranch) (o : Otherwise) (more : Bool)
    → more ≡ goes_on o
    → SoFar start w jumps all (lowered_otherwise scope (length w.code.draft) w.code.free (ElseIf b.place b.condition b.body.statements b.body.end o))
    → let test = evaluated scope (length w.code.draft) w.code.free b.condition in
    let body = all_lowered scope (length w.code.draft + length test.instrs + 1) test.free b.body.statements in
    IsWritten w new (open_branch b.place.line (length w.code.draft) test body more)
    → SoFar start new (jumps ++ jump_place more (length w.code.draft + length test.instrs + 1 + length body.instrs)) all
    (lowered_otherwise scope (length new.code.draft) new.code.free o)
chain_next scope start w new jumps all b o more e so_far h =
    let at = length w.code.draft in
    let test = evaluated scope at w.code.free b.condition in
    let body = all_lowered scope (at + length test.instrs + 1) test.free b.body.statements in
    let places = λ (m : Bool). jumps ++ jump_place m (at + length test.instrs + 1 + length body.instrs) in
    let h' : IsWritten w new (open_branch b.place.line at test body (goes_on o)) = subst (λ m. IsWritten w new (open_branch b.place.line at test body m)) e h in
    let next = after_body at test body (goes_on o) in
    let first = branch_written start w new jumps all b.place.line test body (goes_on o) (lowered_otherwise scope next body.free o) so_far h' in
    let place : next ≡ length new.code.draft = sym (open_length at test body (goes_on o) b.place.line w new h' refl) in
    subst (λ m. SoFar start new (places m) all (lowered_otherwise scope (length new.code.draft) new.code.free o)) (sym e)
    (subst (λ n. SoFar start new (places (goes_on o)) all (lowered_otherwise scope n new.code.free o)) place
    (subst (λ f. SoFar start new (places (goes_on o)) all (lowered_otherwise scope next f o)) (sym h'.free) first))

-- ---- lines

-- a statement without statements inside was written, and its line was recorded
pub marked : {A E : Type 0} (old mid new : Body) (all : Written) (line : ℕ) (r : Result A E) → length old.lines.items ≡ length old.code.draft
    → mid.lines.items ≡ old.lines.items → IsAdded old.code mid.code all → new.code ≡ mid.code
    → OnOk r (new.lines.items ≡ mid.lines.items ++ replicate (length mid.code.draft - length mid.lines.items) line)
    → OnOk r (IsWritten old new (on_line line all))
marked old mid new all line (Err e) even same h code lines = tt
marked old mid new all line (Ok a) even same h code lines =
    let count : length mid.code.draft - length mid.lines.items ≡ length all.instrs =
    omega (arith, even, ap length same, ap length h.instrs, length-append old.code.draft all.instrs) in
    let lines_are : new.lines.items ≡ old.lines.items ++ replicate (length all.instrs) line =
    lines ∙ ap (λ n. mid.lines.items ++ replicate n line) count ∙ ap (λ ls. ls ++ replicate (length all.instrs) line) same in
    let draft : new.code.draft ≡ old.code.draft ++ all.instrs = ap (λ w. w.draft) code ∙ h.instrs in
    record {
      instrs = draft;
      lines = lines_are;
      free = ap (λ w. w.free) code ∙ h.free;
      even =
          omega (
            arith,
            even,
            ap length lines_are,
            length-append old.lines.items (replicate (length all.instrs) line),
            length-replicate (length all.instrs) line,
            ap length draft,
            length-append old.code.draft all.instrs,
          );
      room = omega (arith, ap (λ w. w.free) code, ap (λ w. length w.draft) code, h.room);
    }

-- a test, its body and the instructions after the body
abbrev pub tested_body : ℕ → Evaluated → Expr → ℕ → Lowered → List Instr → Lowered
tested_body line test condition target body tail = record {
  instrs = test.instrs ++ Branch condition target ∷ [] ++ body.instrs ++ tail;
  lines = replicate (length test.instrs + 1) line ++ body.lines ++ replicate (length tail) line;
  free = body.free;
}

-- the room of a branch is taken, between a test and its body
set-branch : (old test body tail : List Instr) (room branch : Instr)
    → set (((old ++ test ++ room ∷ []) ++ body) ++ tail) (length old + length test) branch ≡ old ++ (test ++ branch ∷ [] ++ body ++ tail)
set-branch old test body tail room branch =
    let before = old ++ test in
    let place : length old + length test ≡ length before = sym (length-append old test) in
    let here : ((old ++ test ++ room ∷ []) ++ body) ++ tail ≡ before ++ room ∷ (body ++ tail) = simp append_assoc in
    let there : before ++ branch ∷ (body ++ tail) ≡ old ++ (test ++ branch ∷ [] ++ body ++ tail) = simp append_assoc in
    ap (λ is. set is (length old + length test) branch) here ∙ ap (λ n. set (before ++ room ∷ (body ++ tail)) n branch) place
    ∙ set-append_seam before room (body ++ tail) branch ∙ there

pub test_ended : (old begun inner passed new : Body) (test : Evaluated) (line : ℕ) (t : Test) (body : Lowered) (tail : List Instr)
    → IsBegun old begun test line t → IsWritten begun inner body → passed.code.draft ≡ inner.code.draft ++ tail → passed.code.free ≡ inner.code.free
    → passed.lines.items ≡ inner.lines.items ++ replicate (length passed.code.draft - length inner.lines.items) line
    → new.code.draft ≡ set passed.code.draft t.branch (Branch t.condition (length passed.code.draft))
    → new.lines.items ≡ passed.lines.items → new.code.free ≡ passed.code.free
    → IsWritten old new
    (tested_body line test test.value (length old.code.draft + length test.instrs + 1 + length body.instrs + length tail) body tail)
test_ended old begun inner passed new test line t body tail b w draft free lines put lines_same free_same =
    let begun_size : length begun.code.draft ≡ length old.code.draft + length test.instrs + 1 =
    omega (arith, ap length b.instrs, length-append (old.code.draft ++ test.instrs) (Goto 0 ∷ []), length-append old.code.draft test.instrs) in
    let inner_size : length inner.code.draft ≡ length begun.code.draft + length body.instrs = ap length w.instrs ∙ length-append begun.code.draft body.instrs in
    let size : length passed.code.draft ≡ length inner.code.draft + length tail = ap length draft ∙ length-append inner.code.draft tail in
    let count : length passed.code.draft - length inner.lines.items ≡ length tail = omega (arith, size, w.even) in
    let target : length passed.code.draft ≡ length old.code.draft + length test.instrs + 1 + length body.instrs + length tail =
    omega (arith, size, inner_size, begun_size) in
    let parts : passed.code.draft ≡ ((old.code.draft ++ test.instrs ++ Goto 0 ∷ []) ++ body.instrs) ++ tail =
    draft ∙ ap (λ is. is ++ tail) w.instrs ∙ ap (λ is. (is ++ body.instrs) ++ tail) b.instrs in
    let branch = Branch test.value (length old.code.draft + length test.instrs + 1 + length body.instrs + length tail) in
    let new_lines : new.lines.items ≡ old.lines.items ++ (replicate (length test.instrs + 1) line ++ body.lines ++ replicate (length tail) line) =
    lines_same ∙ lines ∙ ap (λ n. inner.lines.items ++ replicate n line) count ∙ ap (λ ls. ls ++ replicate (length tail) line) w.lines
    ∙ ap (λ ls. (ls ++ body.lines) ++ replicate (length tail) line) b.lines ∙ simp append_assoc in
    let new_size : length new.code.draft ≡ length passed.code.draft = ap length put ∙ length-set passed.code.draft t.branch _ in
    record {
      instrs =
          put ∙ ap (λ n. set passed.code.draft t.branch (Branch t.condition n)) target
          ∙ ap (λ e. set passed.code.draft t.branch (Branch e (length old.code.draft + length test.instrs + 1 + length body.instrs + length tail))) b.condition
          ∙ ap (λ n. set passed.code.draft n branch) b.branch
          ∙ ap (λ is. set is (length old.code.draft + length test.instrs) branch) parts
          ∙ set-branch old.code.draft test.instrs body.instrs tail (Goto 0) branch;
      lines = new_lines;
      free = free_same ∙ free ∙ w.free;
      even =
          omega (
            arith,
            new_size,
            ap length lines_same,
            ap length lines,
            length-append inner.lines.items (replicate (length passed.code.draft - length inner.lines.items) line),
            length-replicate (length passed.code.draft - length inner.lines.items) line,
            count,
            size,
            w.even,
          );
      room = omega (arith, new_size, size, free_same, free, w.room);
    }

-- ---- an `if` of the tree

-- a branch is part of its chain
branch_fits : (n line at : ℕ) (test : Evaluated) (body : Lowered) (more : Bool) (others : Lowered)
    → n + length (branched line at test body more others).instrs < 2 ^ 18 → n + length (open_branch line at test body more).instrs < 2 ^ 18
branch_fits n line at test body false others h =
    omega (arith, h, length-append (open_branch line at test body false).instrs others.instrs)
branch_fits n line at test body true others h =
    let before = test.instrs ++ Branch test.value (after_body at test body true) ∷ [] ++ body.instrs in
    let end = after_body at test body true + length others.instrs in
    omega (arith, h, length-append (before ++ Goto end ∷ []) others.instrs, length-append before (Goto end ∷ []), length-append before (Goto 0 ∷ []))

branch_ready : (scope : Name → Option Thing) (w : Body) (b : SeenBranch) (o : Otherwise) (more : Bool) → more ≡ goes_on o
    → IsReady w (lowered_otherwise scope (length w.code.draft) w.code.free (ElseIf b.place b.condition b.body.statements b.body.end o))
    → let test = evaluated scope (length w.code.draft) w.code.free b.condition in
    let body = all_lowered scope (length w.code.draft + length test.instrs + 1) test.free b.body.statements in
    IsReady w (open_branch b.place.line (length w.code.draft) test body more)
branch_ready scope w b o more e r =
    let at = length w.code.draft in
    let test = evaluated scope at w.code.free b.condition in
    let body = all_lowered scope (at + length test.instrs + 1) test.free b.body.statements in
    let others = lowered_otherwise scope (after_body at test body (goes_on o)) body.free o in
    subst (λ m. IsReady w (open_branch b.place.line at test body m)) (sym e)
    (record { even = r.even; room = r.room; fits = branch_fits at b.place.line at test body (goes_on o) others r.fits })

module _ (scope : Name → Option Thing) (w : Body) (s : TreeStatement) (b : TreeBranch) (others : Vec TreeBranch Global) (last : Option Block)
    (is : s ≡ If b others last) (ready : IsReady w (lowered scope (length w.code.draft) w.code.free (statement_of s))) where
  chain : Otherwise
  chain = otherwise_of (map branch_of others.items) (option_map block_of last)

  same_chain : lowered scope (length w.code.draft) w.code.free (statement_of s)
      ≡ lowered_otherwise scope (length w.code.draft) w.code.free
      (ElseIf (branch_of b).place (branch_of b).condition (branch_of b).body.statements (branch_of b).body.end
      (otherwise_of (map branch_of others.items) (option_map block_of last)))
  same_chain = ap (λ t. lowered scope (length w.code.draft) w.code.free (statement_of t)) is
      ∙ ap (lowered scope (length w.code.draft) w.code.free) (if_seen b others last)

  pub first_ready : (more : Bool) → more ≡ goes_on (otherwise_of (map branch_of others.items) (option_map block_of last))
      → let test = evaluated scope (length w.code.draft) w.code.free (branch_of b).condition in
      let body = all_lowered scope (length w.code.draft + length test.instrs + 1) test.free (branch_of b).body.statements in
      IsReady w (open_branch (branch_of b).place.line (length w.code.draft) test body more)
  first_ready more e =
      branch_ready scope w (branch_of b) (otherwise_of (map branch_of others.items) (option_map block_of last)) more e (subst (IsReady w) same_chain ready)

  pub chain_begins : (new : Body) (more : Bool) → more ≡ goes_on (otherwise_of (map branch_of others.items) (option_map block_of last))
      → let test = evaluated scope (length w.code.draft) w.code.free (branch_of b).condition in
      let body = all_lowered scope (length w.code.draft + length test.instrs + 1) test.free (branch_of b).body.statements in
      IsWritten w new (open_branch (branch_of b).place.line (length w.code.draft) test body more)
      → (before js : List ℕ) → before ≡ [] → js ≡ before ++ jump_place more (length w.code.draft + length test.instrs + 1 + length body.instrs)
      → SoFar w new js
      (lowered scope (length w.code.draft) w.code.free (statement_of s))
      (lowered_otherwise scope (length new.code.draft) new.code.free (otherwise_of (map branch_of others.items) (option_map block_of last)))
  chain_begins new more e h before js none js_are =
      let test = evaluated scope (length w.code.draft) w.code.free (branch_of b).condition in
      let body = all_lowered scope (length w.code.draft + length test.instrs + 1) test.free (branch_of b).body.statements in
      let left = lowered_otherwise scope (length new.code.draft) new.code.free (otherwise_of (map branch_of others.items) (option_map block_of last)) in
      let same : js ≡ jump_place more (length w.code.draft + length test.instrs + 1 + length body.instrs) =
      js_are ∙ ap (λ ks. ks ++ jump_place more (length w.code.draft + length test.instrs + 1 + length body.instrs)) none in
      let all = lowered scope (length w.code.draft) w.code.free (statement_of s) in
      let start : SoFar w w [] all (lowered_otherwise scope (length w.code.draft) w.code.free
      (ElseIf (branch_of b).place (branch_of b).condition (branch_of b).body.statements (branch_of b).body.end
      (otherwise_of (map branch_of others.items) (option_map block_of last)))) = subst (SoFar w w [] all) same_chain (begin_so_far w all ready) in
      subst (λ ks. SoFar w new ks all left) (sym same)
      (chain_next scope w w new [] all (branch_of b) (otherwise_of (map branch_of others.items) (option_map block_of last)) more e start h)

module _ (scope : Name → Option Thing) (start w : Body) (jumps : List ℕ) (all : Lowered) (others : List TreeBranch) (last : Option SeenBlock) (k : ℕ)
    (so_far : SoFar start w jumps all (lowered_otherwise scope (length w.code.draft) w.code.free (otherwise_of (map branch_of (drop k others)) last)))
    (fits : length start.code.draft + length all.instrs < 2 ^ 18) where
  module _ (b : TreeBranch) (within : k < length others) (is : b ≡ get_or others k b) where
    next_in_chain : SoFar start w jumps all (lowered_otherwise scope (length w.code.draft) w.code.free
        (ElseIf (branch_of b).place (branch_of b).condition (branch_of b).body.statements (branch_of b).body.end
        (otherwise_of (map branch_of (drop (k + 1) others)) last)))
    next_in_chain =
        subst (λ bs. SoFar start w jumps all (lowered_otherwise scope (length w.code.draft) w.code.free (otherwise_of bs last)))
        (drop-next branch_of others k b within is) so_far

    pub next_ready : (more : Bool) → more ≡ goes_on (otherwise_of (map branch_of (drop (k + 1) others)) last)
        → let test = evaluated scope (length w.code.draft) w.code.free (branch_of b).condition in
        let body = all_lowered scope (length w.code.draft + length test.instrs + 1) test.free (branch_of b).body.statements in
        IsReady w (open_branch (branch_of b).place.line (length w.code.draft) test body more)
    next_ready more e =
        let o = otherwise_of (map branch_of (drop (k + 1) others)) last in
        let left = lowered_otherwise scope (length w.code.draft) w.code.free
        (ElseIf (branch_of b).place (branch_of b).condition (branch_of b).body.statements (branch_of b).body.end o) in
        branch_ready scope w (branch_of b) o more e
        (record { even = so_far.even; room = so_far.room; fits = left_fits start w jumps all left next_in_chain fits })

    pub chain_goes_on : (new : Body) (more : Bool) → more ≡ goes_on (otherwise_of (map branch_of (drop (k + 1) others)) last)
        → let test = evaluated scope (length w.code.draft) w.code.free (branch_of b).condition in
        let body = all_lowered scope (length w.code.draft + length test.instrs + 1) test.free (branch_of b).body.statements in
        IsWritten w new (open_branch (branch_of b).place.line (length w.code.draft) test body more)
        → (js : List ℕ) → js ≡ jumps ++ jump_place more (length w.code.draft + length test.instrs + 1 + length body.instrs)
        → SoFar start new js all
        (lowered_otherwise scope (length new.code.draft) new.code.free (otherwise_of (map branch_of (drop (k + 1) others)) last))
    chain_goes_on new more e h js js_are =
        subst (λ ks. SoFar start new ks all (lowered_otherwise scope (length new.code.draft) new.code.free
        (otherwise_of (map branch_of (drop (k + 1) others)) last))) (sym js_are)
        (chain_next scope start w new jumps all (branch_of b) (otherwise_of (map branch_of (drop (k + 1) others)) last) more e next_in_chain h)

  module _ (end : length others ≤ k) where
    end_of_chain : SoFar start w jumps all (lowered_otherwise scope (length w.code.draft) w.code.free (otherwise_of [] last))
    end_of_chain =
        subst (λ bs. SoFar start w jumps all (lowered_otherwise scope (length w.code.draft) w.code.free (otherwise_of bs last)))
        (ap (map branch_of) (drop_of_length-le others end)) so_far

    pub last_ready : IsReady w (lowered_otherwise scope (length w.code.draft) w.code.free (otherwise_of [] last))
    last_ready = record {
      even = so_far.even;
      room = so_far.room;
      fits = left_fits start w jumps all (lowered_otherwise scope (length w.code.draft) w.code.free (otherwise_of [] last)) end_of_chain fits;
    }

    pub last_written : (mid : Body) → IsWritten w mid (lowered_otherwise scope (length w.code.draft) w.code.free (otherwise_of [] last))
        → SoFar start mid jumps all (record { instrs = []; lines = []; free = mid.code.free })
    last_written mid h =
        let left = lowered_otherwise scope (length w.code.draft) w.code.free (otherwise_of [] last) in
        let rest : Lowered = record { instrs = []; lines = []; free = left.free } in
        let whole : left ≡ joined left rest =
        ap (λ is. record { instrs = is; lines = left.lines; free = left.free }) (sym (append-nil left.instrs))
        ∙ ap (λ ls. record { instrs = left.instrs ++ []; lines = ls; free = left.free }) (sym (append-nil left.lines)) in
        subst (λ n. SoFar start mid jumps all (record { instrs = []; lines = []; free = n })) (sym h.free)
        (part_written start w mid jumps all left rest (subst (SoFar start w jumps all) whole end_of_chain) h)

-- before the last branch, a chain goes on
pub goes_on_first : (xs : List TreeBranch) (n : ℕ) (last : Option SeenBlock) → n < length xs → goes_on (otherwise_of (map branch_of (drop n xs)) last) ≡ true
goes_on_first [] n last h = absurd (omega (arith, h))
goes_on_first (x ∷ xs) zero last h = refl
goes_on_first (x ∷ xs) (suc n) last h = goes_on_first xs n last (omega (arith, h))

some_mapped : (o : Option Block) → goes_on (otherwise_of [] (option_map block_of o)) ≡ is_some o
some_mapped None = refl
some_mapped (Some b) = refl

pub goes_on_last : (xs : List TreeBranch) (n : ℕ) (o : Option Block) → length xs ≤ n
    → goes_on (otherwise_of (map branch_of (drop n xs)) (option_map block_of o)) ≡ is_some o
goes_on_last xs n o h =
    ap (λ bs. goes_on (otherwise_of (map branch_of bs) (option_map block_of o))) (drop_of_length-le xs h) ∙ some_mapped o

pub ruleset mores = (goes_on_first, goes_on_last)

-- ---- statements, one after another

pub statement_ready : (scope : Name → Option Thing) (start w : Body) (all : Lowered) (ss : List TreeStatement) (k : ℕ) (s : TreeStatement)
    → SoFar start w [] all (all_lowered scope (length w.code.draft) w.code.free (statements_seen (drop k ss))) → k < length ss → s ≡ get_or ss k s
    → length start.code.draft + length all.instrs < 2 ^ 18 → IsReady w (lowered scope (length w.code.draft) w.code.free (statement_of s))
statement_ready scope start w all ss k s so_far within is fits =
    let first = lowered scope (length w.code.draft) w.code.free (statement_of s) in
    let others = all_lowered scope (length w.code.draft + length first.instrs) first.free (statements_seen (drop (k + 1) ss)) in
    part_ready start w [] all first others
    (subst (λ ts. SoFar start w [] all (all_lowered scope (length w.code.draft) w.code.free (statements_of ts))) (drop-next statement_of ss k s within is)
    so_far)
    fits

-- ---- the body of a branch

module _ (scope : Name → Option Thing) (old begun inner left passed new : Body) (b : TreeBranch) (t : Test) (ss : List TreeStatement) (tail : List Instr)
    (same : ss ≡ b.body.statements.items)
    (begins : IsBegun old begun (evaluated scope (length old.code.draft) old.code.free (branch_of b).condition) (branch_of b).place.line t)
    (writes : IsWritten begun inner (all_lowered scope (length begun.code.draft) begun.code.free (statements_seen ss)))
    (draft : left.code.draft ≡ inner.code.draft ++ tail) (free : left.code.free ≡ inner.code.free) (lines : left.lines.items ≡ inner.lines.items)
    (code : passed.code ≡ left.code)
    (lined : passed.lines.items ≡ left.lines.items ++ replicate (length left.code.draft - length left.lines.items) b.place.line) where
  branch_written_inside : let test = evaluated scope (length old.code.draft) old.code.free (branch_of b).condition in
      IsWritten begun inner (all_lowered scope (length old.code.draft + length test.instrs + 1) test.free (branch_of b).body.statements)
  branch_written_inside =
      let test = evaluated scope (length old.code.draft) old.code.free (branch_of b).condition in
      let place : length begun.code.draft ≡ length old.code.draft + length test.instrs + 1 =
      omega (arith, ap length begins.instrs, length-append (old.code.draft ++ test.instrs) (Goto 0 ∷ []), length-append old.code.draft test.instrs) in
      let seen : statements_seen ss ≡ (branch_of b).body.statements = ap statements_seen same ∙ sym (branch_body b) in
      subst (λ ts. IsWritten begun inner (all_lowered scope (length old.code.draft + length test.instrs + 1) test.free ts)) seen
      (subst (λ n. IsWritten begun inner (all_lowered scope n test.free (statements_seen ss))) place
      (subst (λ n. IsWritten begun inner (all_lowered scope (length begun.code.draft) n (statements_seen ss))) begins.free writes))

  pub branch_size : let test = evaluated scope (length old.code.draft) old.code.free (branch_of b).condition in
      let body = all_lowered scope (length old.code.draft + length test.instrs + 1) test.free (branch_of b).body.statements in
      length passed.code.draft ≡ length old.code.draft + length test.instrs + 1 + length body.instrs + length tail
  branch_size =
      let test = evaluated scope (length old.code.draft) old.code.free (branch_of b).condition in
      let body = all_lowered scope (length old.code.draft + length test.instrs + 1) test.free (branch_of b).body.statements in
      let w = branch_written_inside in
      omega (
        arith,
        ap (λ v. length v.draft) code,
        ap length draft,
        length-append inner.code.draft tail,
        ap length w.instrs,
        length-append begun.code.draft body.instrs,
        ap length begins.instrs,
        length-append (old.code.draft ++ test.instrs) (Goto 0 ∷ []),
        length-append old.code.draft test.instrs,
      )

  pub inner_size : let test = evaluated scope (length old.code.draft) old.code.free (branch_of b).condition in
      let body = all_lowered scope (length old.code.draft + length test.instrs + 1) test.free (branch_of b).body.statements in
      length inner.code.draft ≡ length old.code.draft + length test.instrs + 1 + length body.instrs
  inner_size = omega (arith, branch_size, ap (λ v. length v.draft) code, ap length draft, length-append inner.code.draft tail)

  pub branch_ended : new.code.draft ≡ set passed.code.draft t.branch (Branch t.condition (length passed.code.draft))
      → new.lines.items ≡ passed.lines.items → new.code.free ≡ passed.code.free
      → let test = evaluated scope (length old.code.draft) old.code.free (branch_of b).condition in
      let body = all_lowered scope (length old.code.draft + length test.instrs + 1) test.free (branch_of b).body.statements in
      IsWritten old new (tested_body (branch_of b).place.line test test.value
      (length old.code.draft + length test.instrs + 1 + length body.instrs + length tail) body tail)
  branch_ended put new_lines new_free =
      let test = evaluated scope (length old.code.draft) old.code.free (branch_of b).condition in
      let body = all_lowered scope (length old.code.draft + length test.instrs + 1) test.free (branch_of b).body.statements in
      let line : b.place.line ≡ (branch_of b).place.line = ap (λ (q : Place). q.line) (sym (branch_place b)) in
      let marked_lines : passed.lines.items ≡ inner.lines.items ++ replicate (length passed.code.draft - length inner.lines.items) (branch_of b).place.line =
      lined ∙ ap (λ ls. ls ++ replicate (length left.code.draft - length ls) b.place.line) lines
      ∙ ap (λ n. inner.lines.items ++ replicate (n - length inner.lines.items) b.place.line) (ap (λ v. length v.draft) (sym code))
      ∙ ap (λ n. inner.lines.items ++ replicate (length passed.code.draft - length inner.lines.items) n) line in
      test_ended old begun inner passed new test (branch_of b).place.line t body tail begins branch_written_inside
      (ap (λ v. v.draft) code ∙ draft) (ap (λ v. v.free) code ∙ free) marked_lines put new_lines new_free

-- how many instructions there are
pub open_size : (line at : ℕ) (test : Evaluated) (body : Lowered) (more : Bool)
    → length (open_branch line at test body more).instrs ≡ length test.instrs + 1 + length body.instrs + length (passing more 0)
open_size line at test body more =
    let branch = Branch test.value (after_body at test body more) in
    omega (
      arith,
      length-append (test.instrs ++ branch ∷ [] ++ body.instrs) (passing more 0),
      length-append (test.instrs ++ branch ∷ []) body.instrs,
      length-append test.instrs (branch ∷ []),
    )

pub loop_size : (line at : ℕ) (test : Evaluated) (body : Lowered)
    → length (looped line at test body).instrs ≡ length test.instrs + 1 + length body.instrs + 1
loop_size line at test body =
    let branch = Branch test.value (at + length test.instrs + 1 + length body.instrs + 1) in
    omega (
      arith,
      length-append (test.instrs ++ branch ∷ [] ++ body.instrs) (Goto at ∷ []),
      length-append (test.instrs ++ branch ∷ []) body.instrs,
      length-append test.instrs (branch ∷ []),
    )
