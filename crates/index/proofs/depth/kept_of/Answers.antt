-- `kept_of` meets its contract: counts are small, so their differences fit 32 bits.
use native.Mathlib.Omega.{arith}
use Rattle.index.specs.Depth.{kept_of}
use Rattle.index.proofs.Signed.{minus_read, count_read}
use Rattle.index.proofs.depth.kept_of.Goals as goal

pub returns : goal.returns
unfolding kept_of
returns c = let s = c.args.s in let p = c.requires in
    rw (count_read s.up p.ups, count_read s.down p.downs, count_read s.dip p.dips, count_read s.peak p.peaks, minus_read s.up s.down p.ups p.downs, minus_read 0 s.dip (omega arith) p.dips)
