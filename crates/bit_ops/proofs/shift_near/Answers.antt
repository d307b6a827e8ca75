use Rattle.std.proofs.Common.{arith, ◌≡◌, ◌≤◌, ◌*◌, ◌∙◌, subst, sym, List, ℤ, ℕ, length, take, drop}
use Rattle.std.proofs.lemmas.List.{length-take}
use Rattle.std.proofs.lemmas.List.Elements.{All-take, All-drop}
use Rattle.cnf_core.specs.Clauses.{var_of}
use Rattle.bit_gates.specs.Folded.{HasRoom}
use Rattle.bit_words.specs.Words.{AreWithin}
use Rattle.bit_words.proofs.Loops.{within_more}
use Rattle.bit_arith.proofs.Rows.{end_read}
use Rattle.bit_ops.proofs.shift_near.Goals as goal

pub shift-requires : goal.shift-requires
shift-requires c =
    let ys : List ℤ = c.args.distance.now in
    let five : length (take 5 ys) ≡ 5 = length-take 5 ys ∙ omega (arith, c.requires.wide) in
    let room : HasRoom (9 * (32 * 5)) c.args.circuit.now = (omega (arith, c.requires.room.0), omega (arith, c.requires.room.1)) in
    let within = All-take (λ l. var_of l ≤ c.args.circuit.now.vars) 5 ys c.requires.second in
    let short : length (take 5 ys) ≤ 16 = omega (arith, five) in
    (omega arith, (c.requires.bit, (c.requires.first, (within, (short, subst (λ n. HasRoom (9 * (32 * n)) c.args.circuit.now) (sym five) room)))))

pub any-requires-clause-word : goal.any-requires-clause-word
any-requires-clause-word c =
    let ys : List ℤ = c.args.distance.now in
    let n : ℕ = c.shift.new.circuit.vars in
    subst (AreWithin n) (sym (end_read 5 ys))
    (within_more c.args.circuit.now.vars n (drop 5 ys) c.in_ok-word.ensures.larger.0
    (All-drop (λ l. var_of l ≤ c.args.circuit.now.vars) 5 ys c.requires.second))
