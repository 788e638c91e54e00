use Rattle.iova_check.proofs.TraceWords.{front_is_word, front_stops, front_and_rest}
use Rattle.iova_check.specs.Trace.{word_at_front, from_blank}
use Rattle.iova_check.proofs.trace.word_and_rest.Goals as goal

pub returns-clause-word : goal.returns-clause-word
returns-clause-word c =
    let bytes = c.args.bytes.now in
    (c.first_word.ensures.read (word_at_front bytes) (from_blank bytes) (front_is_word bytes) (front_stops bytes) (front_and_rest bytes)).0

pub returns-clause-rest : goal.returns-clause-rest
returns-clause-rest c =
    let bytes = c.args.bytes.now in
    (c.first_word.ensures.read (word_at_front bytes) (from_blank bytes) (front_is_word bytes) (front_stops bytes) (front_and_rest bytes)).1
