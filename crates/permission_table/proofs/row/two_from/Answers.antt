use Rattle.std.proofs.Common.{inl}
use Rattle.permission_table.proofs.UnionLaws.{two_between, one_alone}
use Rattle.permission_table.proofs.row.two_from.Goals as goal

pub returns-in-Some-clause-members : goal.returns-in-Some-clause-members
returns-in-Some-clause-members c = (c.in_ok-first.ensures.member, c.in-Some.ensures.member)

pub returns-in-Some-clause-between : goal.returns-in-Some-clause-between
returns-in-Some-clause-between c = two_between c.args.roles c.args.from c.in_ok-first.first c.in-Some.second c.in_ok-first.ensures.least c.in-Some.ensures.least

pub returns-in-None-clause-members : goal.returns-in-None-clause-members
returns-in-None-clause-members c = (c.in_ok-first.ensures.member, c.in_ok-first.ensures.member)

pub returns-in-None-clause-between : goal.returns-in-None-clause-between
returns-in-None-clause-between c q low high here = inl (one_alone c.args.roles c.args.from c.in_ok-first.first c.in_ok-first.ensures.least q low high here)
