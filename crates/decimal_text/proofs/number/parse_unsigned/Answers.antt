use Rattle.decimal_text.proofs.Spelling.{unsigned_misspelt, unsigned_ok, unsigned_out_of_range}
use Rattle.decimal_text.proofs.number.parse_unsigned.Goals as goal

pub returns-in-None-clause-value : goal.returns-in-None-clause-value
returns-in-None-clause-value c = unsigned_misspelt _ _ c.in-None.ensures

pub returns-then-value-most-clause-value : goal.returns-then-value-most-clause-value
returns-then-value-most-clause-value c = unsigned_ok _ _ _ c.in-Some.ensures.0 c.in-Some.ensures.1 c.if-value-most.true

pub returns-else-value-most-clause-value : goal.returns-else-value-most-clause-value
returns-else-value-most-clause-value c = unsigned_out_of_range _ _ _ c.in-Some.ensures.0 c.in-Some.ensures.1 c.if-value-most.false
