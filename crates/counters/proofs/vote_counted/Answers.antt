-- The counters read are those of all estimates, and clearing these brings back the zeros that were lent.
use Rattle.std.proofs.Common.{ℕ, List, length, sym, ap, ◌∙◌, arith}
use Rattle.model.specs.Vote.{votes_read}
use Rattle.theory.specs.Counters.{length_counted}
use Rattle.counters.specs.Reading.{as_vote, read_counted}
use Rattle.counters.proofs.vote_counted.Goals as goal

pub read_vote-v-requires : goal.read_vote-v-requires
read_vote-v-requires c = (omega arith, ap (λ (l : List ℕ). length l) c.count_each.ensures ∙ length_counted 256 c.args.es.now)

pub returns : goal.returns
returns c =
    let es = c.args.es.now in record {
      told = c.read_vote-v.ensures
          ∙ ap (λ (l : List ℕ). as_vote (votes_read l es)) c.count_each.ensures
          ∙ read_counted es (λ i. omega (arith, c.type_inv.es i));
      kept = c.clear_each.ensures ∙ sym c.requires.2;
    }
