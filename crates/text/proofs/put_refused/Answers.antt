-- Each piece is laid behind the one before.
use Rattle.text.proofs.Laying.{room-rest, put_then}
use Rattle.text.proofs.put_refused.Goals as goal

pub returns : goal.returns
returns c =
    let r₁ = room-rest _ c.put_bytes-refused.ensures c.requires in
    let r₂ = room-rest _ c.put_count-numbered.ensures r₁ in
    put_then c.put_bytes-refused.ensures c.requires
    (put_then c.put_count-numbered.ensures r₁ (put_then c.put_count-placed.ensures r₂ c.put_byte.ensures))
