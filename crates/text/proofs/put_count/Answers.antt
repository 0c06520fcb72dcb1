-- The number is laid behind the blank.
use Rattle.text.proofs.Laying.{put_then}
use Rattle.text.proofs.put_count.Goals as goal

pub returns : goal.returns
returns c = put_then c.put_byte-next.ensures c.requires c.put_number.ensures
