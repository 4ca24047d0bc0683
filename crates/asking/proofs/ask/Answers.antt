-- what a service sees of the arguments, beside any `v`
use Rattle.std.proofs.Common.{sym, ◌∙◌}
use Rattle.model.specs.Service11.{service11}
use Rattle.model.specs.Service2E.{service2E}
use Rattle.model.specs.Service31.{service31}
use Rattle.model.specs.Service28.{service28}
use Rattle.model.specs.Service2F.{service2F}
use Rattle.model.specs.Service34.{service34}
use Rattle.model.specs.Service36.{service36}
use Rattle.model.specs.Service37.{service37}
use Rattle.model.specs.Service38.{service38}
use Rattle.access.specs.Access.{access27, later27}
use Rattle.management.specs.Later.{later11, later28}
use Rattle.data.specs.Later.{later2E}
use Rattle.control.specs.Later.{later2F, later31}
use Rattle.transfer.specs.Later.{later34, later36, later37, later38}
use Rattle.dispatch.specs.Rules.{service}
use Rattle.dispatch.proofs.Routes.{is_11, is_27, is_2E, is_31, is_28, is_2F, is_34, is_36, is_37, is_38}
use Rattle.asking.specs.Seen.{asked_in}
use Rattle.asking.proofs.None.{asks_none}
use Rattle.asking.proofs.Asks.{by_question, always-asks}
use Rattle.asking.proofs.ask.Goals as goal

pub returns-in-17 : goal.returns-in-17
returns-in-17 c = λ v. let w = asked_in c.args.request.now c.args.k.now v in
    by_question (service c.args.sid) service11 later11 w c.act.result c.ask11.result (is_11 c.args.sid w c.in-17.is) (c.ask11.ensures w) c.act.ensures

pub returns-in-39 : goal.returns-in-39
returns-in-39 c = λ v. let w = asked_in c.args.request.now c.args.k.now v in
    by_question (service c.args.sid) access27 later27 w c.act-in-39.result c.ask27.result (is_27 c.args.sid w c.in-39.is) (c.ask27.ensures w) c.act-in-39.ensures

pub returns-in-46 : goal.returns-in-46
returns-in-46 c = λ v. let w = asked_in c.args.request.now c.args.k.now v in
    by_question (service c.args.sid) service2E later2E w c.act-in-46.result c.ask2E.result (is_2E c.args.sid w c.in-46.is) (c.ask2E.ensures w) c.act-in-46.ensures

pub returns-in-49 : goal.returns-in-49
returns-in-49 c = λ v. let w = asked_in c.args.request.now c.args.k.now v in
    by_question (service c.args.sid) service31 later31 w c.act-in-49.result c.ask31.result (is_31 c.args.sid w c.in-49.is) (c.ask31.ensures w) c.act-in-49.ensures

pub returns-in-40 : goal.returns-in-40
returns-in-40 c = λ v. let w = asked_in c.args.request.now c.args.k.now v in
    by_question (service c.args.sid) service28 later28 w c.act-in-40.result c.ask28.result (is_28 c.args.sid w c.in-40.is) (c.ask28.ensures w) c.act-in-40.ensures

pub returns-in-47 : goal.returns-in-47
returns-in-47 c = λ v. let w = asked_in c.args.request.now c.args.k.now v in
    by_question (service c.args.sid) service2F later2F w c.act-in-47.result c.ask2F.result (is_2F c.args.sid w c.in-47.is) (c.ask2F.ensures w) c.act-in-47.ensures

pub returns-in-52 : goal.returns-in-52
returns-in-52 c = λ v. let w = asked_in c.args.request.now c.args.k.now v in
    by_question (service c.args.sid) service34 later34 w c.act-in-52.result c.ask34.result (is_34 c.args.sid w c.in-52.is) (c.ask34.ensures w) c.act-in-52.ensures

pub returns-in-54 : goal.returns-in-54
returns-in-54 c = λ v. let w = asked_in c.args.request.now c.args.k.now v in
    by_question (service c.args.sid) service36 later36 w c.act-in-54.result c.ask36.result (is_36 c.args.sid w c.in-54.is) (c.ask36.ensures w) c.act-in-54.ensures

pub returns-in-55 : goal.returns-in-55
returns-in-55 c = λ v. let w = asked_in c.args.request.now c.args.k.now v in
    always-asks (service c.args.sid) service37 later37 w c.ask37.result (is_37 c.args.sid w c.in-55.is) (c.ask37.ensures w)

pub returns-in-56 : goal.returns-in-56
returns-in-56 c = λ v. let w = asked_in c.args.request.now c.args.k.now v in
    by_question (service c.args.sid) service38 later38 w c.act-in-56.result c.ask38.result (is_38 c.args.sid w c.in-56.is) (c.ask38.ensures w) c.act-in-56.ensures

pub returns-in_default : goal.returns-in_default
returns-in_default c = λ v. c.none.ensures ∙ sym (asks_none (asked_in c.args.request.now c.args.k.now v) c.args.sid c.in_default.in_default-own.rest.0.0.0.0.0.0.0.0.0.1 c.in_default.in_default-own.rest.0.0.0.0.0.0.0.0.1 c.in_default.in_default-own.rest.0.0.0.0.0.0.0.1 c.in_default.in_default-own.rest.0.0.0.0.0.0.1 c.in_default.in_default-own.rest.0.0.0.0.0.1 c.in_default.in_default-own.rest.0.0.0.0.1 c.in_default.in_default-own.rest.0.0.0.1 c.in_default.in_default-own.rest.0.0.1 c.in_default.in_default-own.rest.0.1 c.in_default.in_default-own.rest.1)
