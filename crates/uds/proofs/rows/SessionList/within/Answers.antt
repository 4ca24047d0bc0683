-- A list is as long as its count says.
use Rattle.uds.specs.Rows.{entry_of}
use Rattle.uds.proofs.Tab.{tab-length}
use Rattle.uds.proofs.rows.SessionList.within.Goals as goal

pub returns : goal.returns
returns c = rw (tab-length (entry_of c.args.self) 0 c.args.self.count)
