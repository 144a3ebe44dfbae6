use Rattle.match_text.proofs.Fields.{after_yes, after_no}
use Rattle.match_text.proofs.front.after.Goals as goal

pub returns-then-starts_with : goal.returns-then-starts_with
returns-then-starts_with c = after_yes c.args.bytes.now c.args.text.now c.if-starts_with.ensures.value

pub returns-else-starts_with : goal.returns-else-starts_with
returns-else-starts_with c = after_no c.args.bytes.now c.args.text.now c.if-starts_with.ensures.value
