mod Same
