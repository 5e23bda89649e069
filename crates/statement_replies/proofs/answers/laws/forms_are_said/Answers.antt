use Rattle.statement_replies.proofs.Saying.{changes_refused, forms_said, forms_stay}
use Rattle.statement_replies.proofs.answers.laws.forms_are_said.Goals as goal

pub returns-clause-said : goal.returns-clause-said
returns-clause-said c = forms_said

pub returns-clause-stay : goal.returns-clause-stay
returns-clause-stay c = forms_stay

pub returns-clause-refused : goal.returns-clause-refused
returns-clause-refused c = changes_refused
