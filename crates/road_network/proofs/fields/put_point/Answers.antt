use Rattle.std.proofs.lemmas.Result.{err_from_is_err_and}
use Rattle.road_network.proofs.fields.put_point.Goals as goal

pub returns-in_err-push-in-Ok-clause-value : goal.returns-in_err-push-in-Ok-clause-value
returns-in_err-push-in-Ok-clause-value c = let p = err_from_is_err_and c.from_residual.result c.from_residual.ensures.1 in rw p.1 tt

pub returns-in_err-push-in-Ok-clause-within : goal.returns-in_err-push-in-Ok-clause-within
returns-in_err-push-in-Ok-clause-within c = λ _ _. let p = err_from_is_err_and c.from_residual.result c.from_residual.ensures.1 in rw p.1 tt

pub returns-in-Err-clause-within : goal.returns-in-Err-clause-within
returns-in-Err-clause-within c = λ _ within. within
