-- By the case of the answer.
use Rattle.std.proofs.Common.{◌∙◌}
use Rattle.rules.specs.Answers.{pack, packed}
use Rattle.rules.specs.Refusals.{number_of, place_of, second_of}
use Rattle.rigcandle.specs.Asking.{answer_bits}
use Rattle.rigcandle.proofs.packing.answer_bits.Goals as goal

pub returns-in-Ok : goal.returns-in-Ok
unfolding answer_bits
returns-in-Ok c = rw c.in-Ok.is

pub returns-in-Err : goal.returns-in-Err
unfolding answer_bits packed pack number_of place_of second_of
returns-in-Err c = c.refusal_bits.ensures ∙ rw c.in-Err.is
