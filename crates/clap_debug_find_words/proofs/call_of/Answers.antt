use Rattle.std.proofs.Common.{◌≡◌, ◌∙◌, ◌⊎◌, inl, inr, ap, sym, refl, subst, Bool, true, false, cond, List, [], ◌∷◌, Option, None}
use Rattle.clap.specs.Words.{App, IsAmong, Kinds, Row, Text, app_of, fault_of, is_simple, is_simple_and_free, matches_of}
use Rattle.clap.specs.Walk.{is_empty}
use Rattle.clap.specs.declared.error.kind.ErrorKind.{ErrorKind}
use Rattle.clap.specs.declared.error.kind.ErrorKind.TheVariants.{OutOfMemory}
use Rattle.clap.proofs.SimpleLemmas.{is_nil}
use Rattle.clap_debug_find_words.specs.Calls.{Called, call_in, call_of}
use Rattle.clap_debug_find_words.specs.CommandLine.{command_line, words_taken}
use Rattle.clap_debug_find_words.proofs.call_of.Goals as goal

taken : (ks : Kinds) (o : Option Called) → ks ≡ [] → cond (is_empty ks) o None ≡ o
taken [] o e = refl
taken (k ∷ ks) o e = cc

refused : (b : Bool) (o : Option Called) → (b ≡ true → ⊥) → None ≡ cond b o None
refused true o bad = absurd (bad refl)
refused false o bad = refl

fails : (ks : Kinds) (k : ErrorKind) → (k ≡ OutOfMemory → ⊥) → (k ≡ OutOfMemory) ⊎ IsAmong k ks → ks ≡ [] → ⊥
fails [] k bad (inl e) none = bad e
fails [] k bad (inr h) none = h
fails (x ∷ xs) k bad h none = cc

-- words without a fault give the call of their matches
made : (a : App) (words : List Text) (rows : List Row) → a ≡ command_line → fault_of a words ≡ [] → rows ≡ matches_of a words
    → call_in rows ≡ call_of words
made a words rows app quiet are =
    let free : fault_of command_line words ≡ [] = subst (λ x. fault_of x words ≡ []) app quiet in
    ap call_in (are ∙ ap (λ x. matches_of x words) app) ∙ sym (taken (fault_of command_line words) _ free)

-- words with a fault other than lack of memory give no call
no_call : (a : App) (words : List Text) (k : ErrorKind) → a ≡ command_line → (k ≡ OutOfMemory → ⊥)
    → (k ≡ OutOfMemory) ⊎ IsAmong k (fault_of a words) → None ≡ call_of words
no_call a words k app bad has =
    let there = subst (λ x. (k ≡ OutOfMemory) ⊎ IsAmong k (fault_of x words)) app has in
    refused (words_taken words) _ (λ e. fails (fault_of command_line words) k bad there (is_nil _ e))

pub returns-in-Ok : goal.returns-in-Ok
returns-in-Ok c =
    let app_is : app_of c.in_ok-command_line.field-0 ≡ command_line = c.in_ok-command_line.ensures in
    let got = c.in-Ok.ensures.matches (ap is_simple app_is) in
    c.call_in.ensures
    ∙ made (app_of c.in_ok-command_line.field-0) _ _ app_is (c.in-Ok.ensures.kinds (ap is_simple_and_free app_is)) got.0

pub returns : goal.returns
returns c =
    let app_is : app_of c.in_ok-command_line.field-0 ≡ command_line = c.in_ok-command_line.ensures in
    no_call (app_of c.in_ok-command_line.field-0) _ _ app_is (λ e. c.in_default.not-OutOfMemory (c.kind.ensures ∙ e))
    (c.in-Err.ensures.kinds (ap is_simple_and_free app_is))
