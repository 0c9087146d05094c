-- the machine's parts, as they are in this broker
use Rattle.broker_core.specs.Machine.{Primitives}
use Rattle.caller_facts.specs.Callers.{token_digest}
use Rattle.command_facts.specs.Readings.{Reads, ReadsReplies, Fails}

-- a token is known by its digest; a pact file is read to its normal pact, and recorded replies are compared with it
abbrev pub broker_primitives : Primitives
broker_primitives = record {
  digest_of = token_digest;
  Reads = Reads;
  ReadsReplies = ReadsReplies;
  Fails = Fails;
}
