-- Sessions that have heard of each other.
use Rattle.std.proofs.Common.{◌≡◌, List, [], get_or, sym, subst, ap, ◌∙◌, append-nil}
use Rattle.std.proofs.lemmas.List.{get_or_default}
use Rattle.lst_model.specs.Histories.{Extends}
use Rattle.lst_core_state.specs.declared.known.Known.{Known}
use Rattle.lst_rule.specs.declared.store.Store.{Store}
use Rattle.lst_rule.specs.Copies.{Includes}
use Rattle.lst_session.specs.declared.session.Session.{Session}
use Rattle.lst_session.specs.Parting.{known_by, IsAlone, HearsMore, IsNextPhase}
use Rattle.lst_work_laws.specs.Phases.{Hears, HaveHeard}

hears_by : (store : Store) (one two : Session) → HearsMore store one two → Hears one two
hears_by store one two h = let is = h.knows.is in record {
  number = h.number;
  hosted = h.hosted;
  same = record {
    transaction = record {
      number = ap (λ (k : Known). k.number) is;
      begin = ap (λ (k : Known). k.begin) is;
      read_only = ap (λ (k : Known). k.read_only) is;
      is_open = ap (λ (k : Known). k.is_open) is;
    };
    own = ap (λ (k : Known). k.own) is;
    mine = h.mine;
  };
  lists = record {
    drawn = ap (λ (k : Known). k.placing.drawn) is;
    latched = ap (λ (k : Known). k.latched) is;
    done = ap (λ (k : Known). k.done) is;
  };
  pins = ap (λ (k : Known). k.pages.pins) is;
  seen = h.knows.grows;
  facts = h.knows.keeps;
  finds = ([], ap (λ (k : Known). k.finds) is ∙ sym (append-nil (known_by one).finds));
}

pub have_heard : (store : Store) (old new : List Session) → IsNextPhase store old new → HaveHeard old new
have_heard store old new next = record {
  count = next.more.count;
  hears = λ i d low. hears_by store (get_or old i d) (get_or new i d) (next.more.each i d low);
  all = λ i j d e low lower. subst (λ (session : Session). Extends (known_by (get_or new i d)).seen (known_by session).seen) (get_or_default old j d e lower) ((next.all i low j lower).seen d);
  facts = λ i j d e low lower alone. subst (λ (session : Session). IsAlone session → Includes (known_by (get_or new i d)).facts (known_by session).facts) (get_or_default old j d e lower) (λ own. (next.all i low j lower).facts d own) alone;
}

-- the same of lists that are equal to these
pub they_have_heard : (store : Store) (old before after new : List Session) → IsNextPhase store before after → before ≡ old → new ≡ after → HaveHeard old new
they_have_heard store old before after new next first last = subst (HaveHeard old) (sym last) (subst (λ (ss : List Session). HaveHeard ss after) first (have_heard store before after next))
