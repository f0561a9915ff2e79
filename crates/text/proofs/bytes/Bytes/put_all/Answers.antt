use Rattle.std.proofs.Common.{◌≡◌, length, take, arith}
use Rattle.std.proofs.lemmas.List.{length-take-le}
use Rattle.text.proofs.Writes.{fits_front}
use Rattle.text.proofs.bytes.Bytes.put_all.Goals as goal

pub returns : goal.returns
returns g c =
    let all : length (take c.min-fitting.result c.args.bytes.now) ≡ c.min-fitting.result = length-take-le _ _ (omega arith) in
    let end : c.min-fitting.result ≡ c.loop-i.i = omega arith in
    record { wrote = record { text = cc (fits_front c.args.self.now c.args.bytes.now (omega arith)) } }
