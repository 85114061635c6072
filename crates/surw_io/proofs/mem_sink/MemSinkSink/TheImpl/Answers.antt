use Rattle.std.proofs.Common.{Some, length, ap}
use Rattle.std.proofs.lemmas.Result.{MatchResult-weaker}
use Rattle.surw_io.specs.MemSink.{SinkState}
use Rattle.surw_io.proofs.SinkRules.{write_within}
use Rattle.surw_io.proofs.mem_sink.MemSinkSink.TheImpl.Goals as goal

pub write-tells : goal.write-tells
write-tells c =
    let told = λ (sink : SinkState). Some sink.taken in
    record {
      within = MatchResult-weaker c.result c.ensures.gives (λ n e. write_within c.args.self.now (length c.args.piece.now) n e) (λ _ _. tt);
      some = c.ensures.some;
      taken = MatchResult-weaker c.result c.ensures.after (λ n e. ap told e) (λ _ _. tt);
      kept = MatchResult-weaker c.result c.ensures.after (λ n e. tt) (λ _ e. ap told e);
      cause = c.ensures.cause;
    }
