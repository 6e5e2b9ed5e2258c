mod OneDirection
