use Rattle.search_workers.proofs.laws.laws_below.Goals as goal

pub returns : goal.returns
returns c = record {
  rises = c.commits_stay_in_views.ensures.rises;
  last = c.commits_stay_in_views.ensures.last;
  grows = c.histories_grow_by_entries.ensures.state;
  begins = c.prefixes_of_legal_histories_are_legal.ensures.prefix;
  may = λ h session base n mv legal right. ((c.proposals_commit_exactly.ensures.committed h session base n mv legal).0 right).1;
  current = c.current_vehicles_keep_their_routes.ensures;
  same = c.moves_save_the_same.ensures;
}
