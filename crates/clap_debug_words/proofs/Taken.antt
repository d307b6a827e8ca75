-- What follows for the words if a parse succeeds, or fails for another cause than memory.
use Rattle.std.proofs.Common.{◌≡◌, ◌∙◌, ◌⊎◌, inl, inr, ap, sym, refl, subst, Bool, true, false, cond, List, [], ◌∷◌, Option, None, option_and_then}
use Rattle.clap.specs.Words.{App, IsAmong, Kinds, Row, Text, fault_of, subcommand_of}
use Rattle.clap.specs.Walk.{is_empty}
use Rattle.clap.specs.declared.error.kind.ErrorKind.{ErrorKind}
use Rattle.clap.specs.declared.error.kind.ErrorKind.TheVariants.{OutOfMemory}
use Rattle.clap.proofs.SimpleLemmas.{is_nil}
use Rattle.clap_debug_words.specs.Calls.{Called, call_of, called}
use Rattle.clap_debug_words.specs.CommandLine.{command_line}

taken : (ks : Kinds) (o : Option Called) → ks ≡ [] → cond (is_empty ks) o None ≡ o
taken [] o e = refl
taken (k ∷ ks) o e = cc

refused : (b : Bool) (o : Option Called) → (b ≡ true → ⊥) → None ≡ cond b o None
refused true o bad = absurd (bad refl)
refused false o bad = refl

fails : (ks : Kinds) (k : ErrorKind) → (k ≡ OutOfMemory → ⊥) → (k ≡ OutOfMemory) ⊎ IsAmong k ks → ks ≡ [] → ⊥
fails [] k bad (inl e) none = bad e
fails [] k bad (inr h) none = h
fails (x ∷ xs) k bad h none = cc

-- words without a fault give the call of the subcommand
pub made : (a : App) (words : List Text) (r : Option (Text × List Row)) → a ≡ command_line → fault_of a words ≡ [] → r ≡ subcommand_of a words
    → option_and_then called r ≡ call_of words
made a words r app quiet at =
    let free : fault_of command_line words ≡ [] = subst (λ x. fault_of x words ≡ []) app quiet in
    ap (option_and_then called) (at ∙ ap (λ x. subcommand_of x words) app) ∙ sym (taken (fault_of command_line words) _ free)

-- words with a fault other than lack of memory give no call
pub no_call : (a : App) (words : List Text) (k : ErrorKind) → a ≡ command_line → (k ≡ OutOfMemory → ⊥)
    → (k ≡ OutOfMemory) ⊎ IsAmong k (fault_of a words) → None ≡ call_of words
no_call a words k app bad has =
    let there = subst (λ x. (k ≡ OutOfMemory) ⊎ IsAmong k (fault_of x words)) app has in
    refused (is_empty (fault_of command_line words)) _ (λ e. fails (fault_of command_line words) k bad there (is_nil _ e))
