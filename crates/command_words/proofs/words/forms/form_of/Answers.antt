use Rattle.command_words.proofs.words.forms.form_of.Goals as goal
use Rattle.command_words.proofs.Answering.{form_answer, fault_answer}

pub returns : goal.returns
returns c = record {
  form = form_answer c.args.words.now c.read_words.result c.read_words.ensures;
  fault = fault_answer c.args.words.now c.read_words.result c.read_words.ensures;
}
