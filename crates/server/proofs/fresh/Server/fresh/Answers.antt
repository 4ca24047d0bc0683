use Rattle.std.proofs.Common.{sym, ◌∙◌}
use Rattle.config.specs.View.{config_of}
use Rattle.server.specs.View.{server_of}
use Rattle.server.proofs.Begun.{fresh_kept, fresh-refused}
use Rattle.server.proofs.fresh.Server.fresh.Goals as goal

pub returns-then-within : goal.returns-then-within
returns-then-within c = fresh_kept (config_of c.args.config) (server_of c.empty_handed.result) (sym c.within.ensures ∙ c.if-within.true) c.empty_handed.ensures

pub returns : goal.returns
returns c = fresh-refused (config_of c.args.config) (config_of c.new.result) (server_of c.empty_handed-2.result) (sym c.within.ensures ∙ c.if-within.false) c.empty_handed-2.ensures c.new.ensures
