-- What a trial says of a text, and of the bytes that spell it.
use Rattle.std.proofs.Common.{◌≡◌, ◌<◌, ◌⊎◌, ℕ, List, length, sym, subst}
use Rattle.std.specs.Str.{chars, IsUtf8}
use Rattle.pg_text.specs.declared.text.TheConstants.{LIMIT}
use Rattle.pg_grammar_value.specs.Grammar.{Grammar}
use Rattle.pg_corpus.specs.Wanted.{kind_of}
use Rattle.pg_corpus_judging.specs.declared.came.Came.{Came}
use Rattle.pg_corpus_judging.specs.declared.trial.Trial.{Trial}
use Rattle.pg_corpus_judging.specs.declared.trial.Trial.TheVariants.{Passed, Failed, Untried}
use Rattle.pg_corpus_judging.specs.Judging.{ComesTo, IsTrialOf, IsTrialOfText, IsTrialFor, IsUntried, came_instead}

-- the trial for what came instead is that of the text
pub trial_for : (g : Grammar) (text wanted : List ℕ) (came : Came) (t : Trial) → ComesTo g text came → IsTrialFor (came_instead (kind_of wanted) came) t → IsTrialOfText g text wanted t
trial_for g text wanted came Passed comes is = record { came = came; comes = comes; is = sym is }
trial_for g text wanted came (Failed other) comes is = record { came = came; comes = comes; is = sym is }
trial_for g text wanted came (Untried why) comes is = absurd is

-- a trial of a text is one of its bytes
pub bytes_tried : (g : Grammar) (bytes wanted text : List ℕ) (t : Trial) → IsUtf8 bytes → text ≡ chars bytes → IsTrialOfText g text wanted t → IsTrialOf g bytes wanted t
bytes_tried g bytes wanted text Passed utf8 same is = (utf8, subst (λ text. IsTrialOfText g text wanted Passed) same is)
bytes_tried g bytes wanted text (Failed other) utf8 same is = (utf8, subst (λ text. IsTrialOfText g text wanted (Failed other)) same is)
bytes_tried g bytes wanted text (Untried why) utf8 same is = absurd is

pub bytes_untried : (g : Grammar) (bytes wanted : List ℕ) (t : Trial) → (¬ (IsUtf8 bytes)) ⊎ (LIMIT < length (chars bytes)) → IsUntried t → IsTrialOf g bytes wanted t
bytes_untried g bytes wanted Passed why is = absurd is
bytes_untried g bytes wanted (Failed other) why is = absurd is
bytes_untried g bytes wanted (Untried w) why is = why
