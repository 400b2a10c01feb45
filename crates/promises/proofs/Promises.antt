-- All that is promised, proved.
use Rattle.promises.specs.Promises.{Promises}
use Rattle.promises.proofs.Demand1.{demand1}
use Rattle.promises.proofs.Reached.{started_empty}
use Rattle.promises.proofs.Since.{since}
use Rattle.promises.proofs.Demand2.{demand2}
use Rattle.promises.proofs.Demand3.{demand3}
use Rattle.promises.proofs.TheCode.{the_code}

pub promises : Promises
promises = record { demand1 = demand1; demand2 = demand2; starts = started_empty; since = since; demand3 = demand3; the_code = the_code }
