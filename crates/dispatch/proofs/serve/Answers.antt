-- what a service sees of the arguments
use Rattle.model.specs.Service3E.{service3E}
use Rattle.model.specs.Service22.{service22}
use Rattle.model.specs.Service2E.{service2E}
use Rattle.model.specs.Service31.{service31}
use Rattle.model.specs.Service28.{service28}
use Rattle.model.specs.Service2F.{service2F}
use Rattle.model.specs.Service34.{service34}
use Rattle.model.specs.Service36.{service36}
use Rattle.model.specs.Service37.{service37}
use Rattle.model.specs.Service38.{service38}
use Rattle.service.proofs.Effects.{serves_refused}
use Rattle.dispatch.specs.Rules.{service}
use Rattle.dispatch.specs.Seen.{seen_in}
use Rattle.dispatch.proofs.Routes.{rerouted, spoke, is_3E, is_10, is_11, is_27, is_22, is_2E, is_2A, is_31, is_28, is_2F, is_34, is_36, is_37, is_38, is_none}
use Rattle.dispatch.proofs.serve.Goals as goal

pub returns-in-62 : goal.returns-in-62
returns-in-62 c = let a = c.args in
    let v = seen_in a.request.now a.k.now a.subs.now in
    rerouted (is_3E a.sid v c.in-62.is) (spoke service3E v a.request.now.session a.request.now.level a.request.now.subscriptions a.request.now.frames a.k.now a.subs.now a.room.now c.service3E.result c.spoken.result _ c.spoken.ensures (c.service3E.ensures v))

pub returns-in-16 : goal.returns-in-16
returns-in-16 c = let a = c.args in
    let v = seen_in a.request.now a.k.now a.subs.now in
    rerouted (is_10 a.sid v c.in-16.is) (c.service10.ensures v a.k.now a.subs.now)

pub returns-in-17 : goal.returns-in-17
returns-in-17 c = let a = c.args in
    let v = seen_in a.request.now a.k.now a.subs.now in
    rerouted (is_11 a.sid v c.in-17.is) (c.service11.ensures v a.k.now a.subs.now)

pub returns-in-39 : goal.returns-in-39
returns-in-39 c = let a = c.args in
    let v = seen_in a.request.now a.k.now a.subs.now in
    rerouted (is_27 a.sid v c.in-39.is) (c.service27.ensures v a.subs.now)

pub returns-in-34 : goal.returns-in-34
returns-in-34 c = let a = c.args in
    let v = seen_in a.request.now a.k.now a.subs.now in
    rerouted (is_22 a.sid v c.in-34.is) (spoke service22 v a.request.now.session a.request.now.level a.request.now.subscriptions a.request.now.frames a.k.now a.subs.now a.room.now c.service22.result c.spoken-in-34.result _ c.spoken-in-34.ensures (c.service22.ensures v))

pub returns-in-46 : goal.returns-in-46
returns-in-46 c = let a = c.args in
    let v = seen_in a.request.now a.k.now a.subs.now in
    rerouted (is_2E a.sid v c.in-46.is) (spoke service2E v a.request.now.session a.request.now.level a.request.now.subscriptions a.request.now.frames a.k.now a.subs.now a.room.now c.service2E.result c.spoken-in-46.result _ c.spoken-in-46.ensures (c.service2E.ensures v))

pub returns-in-42 : goal.returns-in-42
returns-in-42 c = let a = c.args in
    let v = seen_in a.request.now a.k.now a.subs.now in
    rerouted (is_2A a.sid v c.in-42.is) (c.service2A.ensures v a.k.now)

pub returns-in-49 : goal.returns-in-49
returns-in-49 c = let a = c.args in
    let v = seen_in a.request.now a.k.now a.subs.now in
    rerouted (is_31 a.sid v c.in-49.is) (spoke service31 v a.request.now.session a.request.now.level a.request.now.subscriptions a.request.now.frames a.k.now a.subs.now a.room.now c.service31.result c.spoken-in-49.result _ c.spoken-in-49.ensures (c.service31.ensures v))

pub returns-in-40 : goal.returns-in-40
returns-in-40 c = let a = c.args in
    let v = seen_in a.request.now a.k.now a.subs.now in
    rerouted (is_28 a.sid v c.in-40.is) (spoke service28 v a.request.now.session a.request.now.level a.request.now.subscriptions a.request.now.frames a.k.now a.subs.now a.room.now c.service28.result c.spoken-in-40.result _ c.spoken-in-40.ensures (c.service28.ensures v))

pub returns-in-47 : goal.returns-in-47
returns-in-47 c = let a = c.args in
    let v = seen_in a.request.now a.k.now a.subs.now in
    rerouted (is_2F a.sid v c.in-47.is) (spoke service2F v a.request.now.session a.request.now.level a.request.now.subscriptions a.request.now.frames a.k.now a.subs.now a.room.now c.service2F.result c.spoken-in-47.result _ c.spoken-in-47.ensures (c.service2F.ensures v))

pub returns-in-52 : goal.returns-in-52
returns-in-52 c = let a = c.args in
    let v = seen_in a.request.now a.k.now a.subs.now in
    rerouted (is_34 a.sid v c.in-52.is) (spoke service34 v a.request.now.session a.request.now.level a.request.now.subscriptions a.request.now.frames a.k.now a.subs.now a.room.now c.service34.result c.spoken-in-52.result _ c.spoken-in-52.ensures (c.service34.ensures v))

pub returns-in-54 : goal.returns-in-54
returns-in-54 c = let a = c.args in
    let v = seen_in a.request.now a.k.now a.subs.now in
    rerouted (is_36 a.sid v c.in-54.is) (spoke service36 v a.request.now.session a.request.now.level a.request.now.subscriptions a.request.now.frames a.k.now a.subs.now a.room.now c.service36.result c.spoken-in-54.result _ c.spoken-in-54.ensures (c.service36.ensures v))

pub returns-in-55 : goal.returns-in-55
returns-in-55 c = let a = c.args in
    let v = seen_in a.request.now a.k.now a.subs.now in
    rerouted (is_37 a.sid v c.in-55.is) (spoke service37 v a.request.now.session a.request.now.level a.request.now.subscriptions a.request.now.frames a.k.now a.subs.now a.room.now c.service37.result c.spoken-in-55.result _ c.spoken-in-55.ensures (c.service37.ensures v))

pub returns-in-56 : goal.returns-in-56
returns-in-56 c = let a = c.args in
    let v = seen_in a.request.now a.k.now a.subs.now in
    rerouted (is_38 a.sid v c.in-56.is) (spoke service38 v a.request.now.session a.request.now.level a.request.now.subscriptions a.request.now.frames a.k.now a.subs.now a.room.now c.service38.result c.spoken-in-56.result _ c.spoken-in-56.ensures (c.service38.ensures v))

pub returns-in_default : goal.returns-in_default
returns-in_default c = let a = c.args in
    let v = seen_in a.request.now a.k.now a.subs.now in
    serves_refused (service a.sid) v a.request.now.session a.request.now.level a.request.now.subscriptions a.request.now.frames a.k.now a.subs.now a.room.now 0x11 c.refused.result c.refused.ensures (is_none a.sid v c.in_default.in_default-own.rest.0.0.0.0.0.0.0.0.0.0.0.0.0.1 c.in_default.in_default-own.rest.0.0.0.0.0.0.0.0.0.0.0.0.1 c.in_default.in_default-own.rest.0.0.0.0.0.0.0.0.0.0.0.1 c.in_default.in_default-own.rest.0.0.0.0.0.0.0.0.0.0.1 c.in_default.in_default-own.rest.0.0.0.0.0.0.0.0.0.1 c.in_default.in_default-own.rest.0.0.0.0.0.0.0.0.1 c.in_default.in_default-own.rest.0.0.0.0.0.0.0.1 c.in_default.in_default-own.rest.0.0.0.0.0.0.1 c.in_default.in_default-own.rest.0.0.0.0.0.1 c.in_default.in_default-own.rest.0.0.0.0.1 c.in_default.in_default-own.rest.0.0.0.1 c.in_default.in_default-own.rest.0.0.1 c.in_default.in_default-own.rest.0.1 c.in_default.in_default-own.rest.1)
