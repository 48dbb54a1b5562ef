-- What runs behind the first statement of a sequence: a proof by hand has to name it.
use mir.Syntax.{Body, skip, seq, assign, block, loop, cond, switch, exit, return, call, unreachable, call_v, lend_static}

abbrev pub rest : Body → Body
rest skip = skip
rest (seq a b) = b
rest (assign p r) = skip
rest (block b) = b
rest (loop b) = b
rest (cond c a b) = b
rest (switch c a) = skip
rest (exit n) = skip
rest return = skip
rest (call f a p) = skip
rest unreachable = skip
rest (call_v f s a p) = skip
rest (lend_static p t c) = skip
