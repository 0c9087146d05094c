use Rattle.pact_paths.proofs.path_reader.+tokens_of.Given as goal

abbrev pub decreases-tokens_of : goal.decreases-tokens_of
decreases-tokens_of l = l.limit
