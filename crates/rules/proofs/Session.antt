-- Document 01's session: the transcript of its thirteen lines is its fourteen, by computation.
use mathlib.Core.Path.{◌≡◌, refl}
use mathlib.Core.List.{[]}
use Rattle.rules.specs.Lists.{bytes}
use Rattle.rules.specs.Transcript.{transcript}
use Rattle.rules.specs.Session.{session, session_output}
use Rattle.rules.proofs.Compute.{compute}

pub session-holds : transcript session ≡ session_output
unfolding compute session session_output
session-holds = refl

-- "Empty input gives `end 0 0`."
pub empty_input : transcript [] ≡ bytes "end\t0\t0\n"
unfolding compute
empty_input = refl

-- "An unfinished last line is Malformed": the same line without and with its line feed. All of it reads, so the field told is the count of four numbers with the word
pub unfinished : transcript (bytes "deposit\t1\t3\t500\t2") ≡ bytes "1\t1\t5\nend\t0\t1\n"
unfolding compute
unfinished = refl

pub finished : transcript (bytes "deposit\t1\t3\t500\t2\n") ≡ bytes "1\t0\nend\t1\t0\n"
unfolding compute
finished = refl
