use Rattle.std.proofs.Common.{◌≡◌, ◌∙◌, codes, Bool, Option}
use Rattle.clap.specs.Words.{Text, first_of, found_of, rows_of}
use Rattle.clap.proofs.WalkLemmas.{first_value-rows}
use Rattle.clap_debug_show_cli.specs.Calls.{asked, plain_text}
use Rattle.clap_debug_show_cli.proofs.words.call_in.Goals as goal

asked_is : (p q : Text) (f g h k : Option Text) (m n : Bool) → p ≡ q → f ≡ g → h ≡ k → m ≡ n → asked p f h m ≡ asked q g k n
asked_is p q f g h k m n a b c d = cc

pub returns : goal.returns
returns c =
    let found = found_of c.args.matches.now in
    let file_is : plain_text c.get_str-file.result ≡ first_of (codes "file") (rows_of found) = c.get_str-file.ensures ∙ first_value-rows found (codes "file") in
    let page_is : plain_text c.get_str-page.result ≡ first_of (codes "html") (rows_of found) = c.get_str-page.ensures ∙ first_value-rows found (codes "html") in
    c.asked.ensures ∙ asked_is _ _ _ _ _ _ _ _ c.text-program.ensures file_is page_is c.is_given.ensures
