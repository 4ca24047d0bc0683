-- What a service's own question says of its act.
use mathlib.Core.Path.{◌≡◌, ap, sym, ◌∙◌}
use Rattle.model.specs.Service.{Seen, Served, Effect, no_act, refuses}
use Rattle.service.specs.Act.{act_of, Ask, asked_of, Asked}
use Rattle.service.specs.declared.Act.{Act}
use Rattle.std.specs.Prelude.{Ok}

module _ (f g : Seen → Served) (later : Seen → Effect) (w : Seen) (act : Act) where
  -- refused before its act, or asked
  pub by_question : (ask : Ask) → f w ≡ g w → Asked g later w ask → ((v : Seen) (e : Effect) → act_of act ≡ (asked_of ask v e).act) → act_of act ≡ (f w).act
  by_question ask z a h = h w (later w) ∙ sym (ap (λ (x : Served). x.act) (z ∙ a.asked))

  -- one that nothing refuses
  pub always-asks : f w ≡ g w → Asked g later w (Ok act) → act_of act ≡ (f w).act
  always-asks z a = sym (ap (λ (x : Served). x.act) (z ∙ a.asked))

-- refused before any service is asked
pub refused_so : (f : Seen → Served) (w : Seen) (act : Act) (code : _) → act_of act ≡ no_act → f w ≡ refuses w code → act_of act ≡ (f w).act
refused_so f w act code n e = n ∙ sym (ap (λ (x : Served). x.act) e)

-- one service by the name of another function
pub asks_as : (f g : Seen → Served) (w : Seen) (act : Act) → f w ≡ g w → act_of act ≡ (g w).act → act_of act ≡ (f w).act
asks_as f g w act e h = h ∙ sym (ap (λ (x : Served). x.act) e)
