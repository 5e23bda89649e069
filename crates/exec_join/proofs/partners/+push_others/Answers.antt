use Rattle.exec_join.proofs.PartnerLaws.{others_next}
use Rattle.exec_join.proofs.partners.+push_others.Goals as goal

pub returns-in-len1-up : goal.returns-in-len1-up
returns-in-len1-up t c = rw (c.push_others.ensures, c.push_unless.ensures.value, c.is_among.ensures) (others_next c.args.places.now c.args.place c.args.out.now.items c.args.at.now c.in-len1-up.len_at_least)
