-- RunLaws: sums, largest totals and last ones of a run. WindowLaws: what passes the test of a window, what one total more does, and the codes. AlongRuns: which
-- windows a run leaves, and what they give.
pub mod RunLaws
pub mod WindowLaws
pub mod AlongRuns
