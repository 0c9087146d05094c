use Rattle.pact_paths.proofs.path_reader.+check_tokens.Given as goal

abbrev pub decreases-check_tokens : goal.decreases-check_tokens
decreases-check_tokens l = l.limit
