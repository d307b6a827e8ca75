-- What a reader's answer to some words says about the words that may follow.
use Rattle.std.proofs.Common.{◌≡◌, ◌≤◌, ◌<◌, ◌+◌, ◌-◌, zero, suc, sym, subst, refl, ap, arith, append_assoc, ℕ, Bool, true, false, List, [], ◌∷◌, ◌++◌, length, take, drop, take-append-drop, nat_eq, eqb-true, eq-eqb, Option, Some, None, is_some, not}
use Rattle.std.specs.Prelude.{◌↔◌, unwrap_or}
use Rattle.std.proofs.lemmas.Bool.{false≢true}
use Rattle.std.proofs.lemmas.List.{append-nil}
use Rattle.std.proofs.Math.Seq.{take-length}
use Rattle.tc_tree.specs.declared.word.Word.{Word}
use Rattle.tc_tree.specs.Grammar.{Program, Begins, IsSpelled, IsSyntaxFault}
use Rattle.next_tokens.specs.helpers.Searched.{IsLeft}

-- a program begins with all its words
spelled_begins : (words : List Word) (p : Program) → IsSpelled 4 words p → Begins 4 words
spelled_begins words p is = record {
  program = p;
  more = [];
  is = subst (λ (ws : List Word). IsSpelled 4 ws p) (sym (append-nil words)) is;
}

-- if words begin a program, so does a first part of them
front_begins : (front back : List Word) → Begins 4 (front ++ back) → Begins 4 front
front_begins front back b = record {
  program = b.program;
  more = back ++ b.more;
  is = subst (λ (ws : List Word). IsSpelled 4 ws b.program) (append_assoc front back b.more) b.is;
}

-- if no word is left at the fault, the words begin a program
zero_begins : (words : List Word) (n : ℕ) → n ≡ 0 → IsSyntaxFault 4 words (length words - n) → Begins 4 words
zero_begins words n none fault =
    let all : length words - n ≡ length words = omega (arith, none) in
    subst (λ (ws : List Word). Begins 4 ws) (take-length words)
    (subst (λ (k : ℕ). Begins 4 (take k words)) all fault.before)

-- words that begin a program leave no word at the fault
begins_zero : (words : List Word) (n : ℕ) → n ≤ length words → IsSyntaxFault 4 words (length words - n) → Begins 4 words → n ≡ 0
begins_zero words zero within fault b = refl
begins_zero words (suc n) within fault b =
    let k = length words - suc n in
    let short : k < length words = omega (arith, within) in
    absurd (fault.after short (front_begins (take (k + 1) words) (drop (k + 1) words)
    (subst (λ (ws : List Word). Begins 4 ws) (sym (take-append-drop (k + 1) words)) b)))

left_begins : (words : List Word) (n : ℕ) → n ≤ length words → IsSyntaxFault 4 words (length words - n) → (nat_eq n 0 ≡ true) ↔ Begins 4 words
left_begins words n within fault = (
  λ e. zero_begins words n (eqb-true n 0 e) fault,
  λ b. eq-eqb n 0 (begins_zero words n within fault b),
)

-- the same for the result of a reader
pub begins_by : (words : List Word) (left : Option ℕ) → IsLeft words left → (nat_eq (unwrap_or left 0) 0 ≡ true) ↔ Begins 4 words
begins_by words None is = (λ e. spelled_begins words is.0 is.1, λ b. refl)
begins_by words (Some n) stop = left_begins words n stop.0 stop.1

pub program_by : (words : List Word) (left : Option ℕ) (none : Bool) → is_some left ≡ not none → IsLeft words left
    → (none ≡ true) ↔ ((p : Program) × IsSpelled 4 words p)
program_by words None true e is = (λ h. is, λ h. refl)
program_by words None false e is = absurd (false≢true e)
program_by words (Some n) true e stop = absurd (false≢true (sym e))
program_by words (Some n) false e stop = (λ h. absurd (false≢true h), λ is. absurd (stop.1.none is.0 is.1))
