use Rattle.std.proofs.Common.{refl}
use Rattle.requests.proofs.Alike.{alike_blanks, blanks_alike, trim_alike, trim_marked}
use Rattle.requests.proofs.Decoded.{one_ask}
use Rattle.requests.proofs.Single.{one_line}
use Rattle.requests.proofs.requests_stand.Goals as goal

pub returns : goal.returns
returns c = record {
  one = one_ask;
  shown = λ a l. (l, λ i. refl);
  one_line = one_line;
  alike = alike_blanks;
  blanks = blanks_alike;
  trimmed = trim_alike;
  marked = trim_marked;
}
