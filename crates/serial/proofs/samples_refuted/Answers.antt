use Rattle.serial.proofs.Refuted.{overlapping_refuted, lost_refuted, half_refuted}
use Rattle.serial.proofs.samples_refuted.Goals as goal

pub returns : goal.returns
returns c = record { apart = overlapping_refuted; updates = lost_refuted; surveys = half_refuted }
