-- `inspect::stated::block_number`: what `block_number` and `check_number` show.
use Rattle.inspect.proofs.Called.{block_number, check_number}
use Rattle.inspect.proofs.stated.block_number.Goals as goal

pub returns : goal.returns
returns c wanted check fragment h = (block_number wanted check fragment h, check_number wanted check fragment h)
